-- From a wanted world to a net: a wanted world with the given types has types that fit, and its links are a net between those that
-- must stand and those that may, which fits what the arrays ask.
-- Assumes nothing.
use Prim.Native.Nat.{◌%◌, ◌*◌, ◌+◌, ◌/◌, ◌<◌, ℕ}
use native.Mathlib.Omega.{arith}
use mathlib.Core.Bool.{Bool, true}
use mathlib.Core.List.{List}
use mathlib.Core.Logic.{⊎_elim}
use mathlib.Core.Path.{◌≡◌, ◌∙◌, ap, ap₂}
use Rattle.laws.proofs.ConnectiveLaws.{known, true-false}
use Rattle.link_search.specs.Nets.{Between, Net, net_of}
use Rattle.link_search.specs.Families.{Fits}
use Rattle.worlds.specs.declared.Lines.{Lines}
use Rattle.worlds.specs.declared.Query.{Query}
use Rattle.worlds.specs.Kept.{sheet}
use Rattle.worlds.specs.Asked.{Sane, Solution}
use Rattle.link_search.specs.declared.asked.NetConstraints.{NetConstraints}
use Rattle.leaves.specs.Fitting.{types_fit}
use Rattle.leaves.specs.Arrays.{Mays, Prepared, all_covered}
use Rattle.leaves.proofs.FittingLaws.{fit_of}
use Rattle.leaves.proofs.RetypedLaws.{made}
use Rattle.leaves.proofs.NetCountLaws.{Agree}
use Rattle.leaves.proofs.RowLaws.{rows_of}
use Rattle.leaves.proofs.ColumnLaws.{columns_of}
use Rattle.leaves.proofs.PairLaws.{mirrors-of, wholes-of}
use Rattle.leaves.proofs.MayLaws.{Open, covered_of, may_of}

-- the net of links
abbrev pub net_in : (ℕ → ℕ → ℕ → Bool) → Net
net_in link i p = link (i % 32) (i / 32) p

module _ (usable singles : ℕ) (targets lows highs : List ℕ) (x : Lines) (q : Query) (types : List ℕ) (n : ℕ) (link : ℕ → ℕ → ℕ → Bool)
    (s : Solution (sheet usable singles targets lows highs x) q n (made n types link)) where
  pub world-fits : types_fit usable singles q types n ≡ true
  world-fits = fit_of usable singles q types n (record {
    many = s.asked.many;
    usable-types = s.allowed.usable;
    single = s.allowed.singles.at;
    wanted = s.asked.typed;
    never = s.asked.avoids;
  })

  agree : Agree n link (net_in link)
  agree = record {
    few = s.allowed.few;
    at = λ t o p ht ho hp.
        let d : (o * 32 + t) / 32 ≡ o = omega arith in
        let m : (o * 32 + t) % 32 ≡ t = omega arith in
        ap₂ (λ (a b : ℕ). link a b p) m d;
    inside = s.allowed.inside;
  }

  -- row i and its parts
  parts : (i : ℕ) → i / 32 * 32 + i % 32 ≡ i
  parts i = omega arith

  must-stand : (i p : ℕ) → i < 256 → p < 8 → net_of q.must i p ≡ true → net_in link i p ≡ true
  must-stand i p h l e = s.asked.must (i / 32) (i % 32) p (omega arith) (omega arith) l (ap (λ (k : ℕ). net_of q.must k p) (parts i) ∙ e)

  is_open : (i p : ℕ) → i < 256 → p < 8 → net_in link i p ≡ true → Open targets types n q.shut i p
  is_open i p h l e =
      let r = s.allowed.inside (i % 32) (i / 32) p e in
      record {
        row = omega (arith, r.0);
        target = r.1;
        allowed = s.allowed.rows.allowed (i % 32) (i / 32) p (omega arith) r.0 r.1 e;
        free = ⊎_elim
            (λ z. absurd (true-false e (s.asked.shut (i / 32) (i % 32) p (omega arith) (omega arith) l (ap (λ (k : ℕ). net_of q.shut k p) (parts i) ∙ z))))
            (λ z. z) (known (net_of q.shut i p));
      }

  module _ (may : List ℕ) (m : Mays targets types n q.shut may) where
    pub world-covered : all_covered q.must may ≡ true
    world-covered = covered_of q.must may (λ i p h l e. may_of targets types n q.shut may m i p h (is_open i p h l (must-stand i p h l e)))

    pub world-between : Between q.must may (net_in link)
    world-between = record { least = must-stand; most = λ i p h l e _. may_of targets types n q.shut may m i p h (is_open i p h l e) }

  module _ (sane : Sane q) (may : List ℕ) (net : NetConstraints) (a : Prepared targets lows highs x q types n may net) where
    pub net-fits : Fits net (net_in link)
    net-fits = record {
      rows = rows_of lows highs types n q net.rows a.rows sane.row link (net_in link) agree s.allowed.rows.limited s.asked.row;
      columns = columns_of types n link (net_in link) agree x q net.columns a.columns s.allowed.columns s.asked.column;
      mirrors = mirrors-of x types n link (net_in link) agree net.mirrors a.mirrors s.allowed.mirrors;
      wholes = wholes-of x types n link (net_in link) agree net.wholes a.wholes s.allowed.wholes;
    }
