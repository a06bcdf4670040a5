-- Queries built from nothing, one demand after the other.
-- Assumes nothing.
use Rattle.std.specs.Prelude.{◌%◌, ◌*◌, ◌+◌, ◌^◌, ℕ, List, [], ◌∷◌, get_or, replicate, set}
use Rattle.std.specs.Int.Bits.{bit_or}
use Rattle.worlds.specs.declared.Query.{Query}

-- so many seeds, the first three with types of a, b and c; nothing else is asked
unfoldable pub seeded : ℕ → ℕ → ℕ → ℕ → Query
seeded k a b c = record {
  seeds = k;
  types = a ∷ b ∷ c ∷ 0 ∷ 0 ∷ 0 ∷ 0 ∷ 0 ∷ [];
  must = replicate 256 0;
  shut = replicate 256 0;
  row = record { slot = 0; low = 0; high = 8 };
  column = record { slot = 0; from = 0; least = 0; most = 8 };
  never = 0;
}

-- the rows with the link from o to p in slot s besides
unfoldable pub with_bit : List ℕ → ℕ → ℕ → ℕ → List ℕ
with_bit rows s o p = set rows (o * 32 + s) (bit_or (get_or rows (o * 32 + s) 0) (1 * 2 ^ p % 2 ^ 8))

-- object o has a link to p in slot s besides
unfoldable pub linked : Query → ℕ → ℕ → ℕ → Query
linked q s o p = record {
  seeds = q.seeds;
  types = q.types;
  must = with_bit q.must s o p;
  shut = q.shut;
  row = q.row;
  column = q.column;
  never = q.never;
}

-- object o has no link to p in slot s besides
unfoldable pub barred : Query → ℕ → ℕ → ℕ → Query
barred q s o p = record {
  seeds = q.seeds;
  types = q.types;
  must = q.must;
  shut = with_bit q.shut s o p;
  row = q.row;
  column = q.column;
  never = q.never;
}

-- the number of targets of the first seed in slot s lies within these limits
unfoldable pub rowed : Query → ℕ → ℕ → ℕ → Query
rowed q s low high = record {
  seeds = q.seeds;
  types = q.types;
  must = q.must;
  shut = q.shut;
  row = record { slot = s; low = low; high = high };
  column = q.column;
  never = q.never;
}

-- the number of its sources of the types `from` in slot s lies within these limits
unfoldable pub columned : Query → ℕ → ℕ → ℕ → ℕ → Query
columned q s from least most = record {
  seeds = q.seeds;
  types = q.types;
  must = q.must;
  shut = q.shut;
  row = q.row;
  column = record { slot = s; from = from; least = least; most = most };
  never = q.never;
}

-- no object besides the seeds has a type of the mask
unfoldable pub avoiding : Query → ℕ → Query
avoiding q never = record {
  seeds = q.seeds;
  types = q.types;
  must = q.must;
  shut = q.shut;
  row = q.row;
  column = q.column;
  never = never;
}
