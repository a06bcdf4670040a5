use borrow.Author.Rules.{rules}
use native.Mathlib.Omega.{arith}
use mathlib.Core.Path.{◌≡◌, refl}
use Rattle.fields.specs.Slot.{slot_of}
use Rattle.files.specs.RecordLayout.{value_of}
use Rattle.resolving.proofs.StoredLaws.{value_in, value-stray}
use Rattle.resolving.proofs.put_value.Goals as goal

pub returns-then-k-s : goal.returns-then-k-s
unfolding value_of
returns-then-k-s c = record {
  long = search rules;
  stored = λ h.
      let slot : c.slot_of-s.result ≡ slot_of c.args.names.now c.args.k (value_of c.args.c.now).attribute = cc in
      value-stray c.args.m.now _ c.args.k slot _ c.args.code c.if-k-s.true refl;
}

pub returns-then-object-ge8 : goal.returns-then-object-ge8
unfolding value_of
returns-then-object-ge8 c = record {
  long = search rules;
  stored = λ h. absurd (omega (arith, c.byte-object.ensures));
}

pub returns : goal.returns
unfolding value_of
returns c = record {
  long = search rules;
  stored = λ h.
      let slot : c.slot_of-s.result ≡ slot_of c.args.names.now c.args.k (value_of c.args.c.now).attribute = cc in
      value_in c.args.m.now _ c.args.k slot _ c.args.code c.if-k-s.false c.byte-object.ensures c.place.ensures refl;
}
