use borrow.Author.Rules.{rules}
use lib.ListN.{get_or}
use Rattle.resolving.proofs.LinkLaws.{mask-with}
use Prim.Native.Nat.{◌<◌}
use mathlib.Core.Bool.{false≢true}
use borrow.Author.Tests.{lt-leb}
use native.Mathlib.Omega.{arith}
use mathlib.Core.Path.{◌≡◌, refl}
use Rattle.fields.specs.Slot.{slot_of}
use Rattle.files.specs.RecordLayout.{link_of}
use Rattle.resolving.proofs.StoredLaws.{link-in, link-stray}
use Rattle.resolving.proofs.put_link.Goals as goal

pub returns-then-k-s : goal.returns-then-k-s
unfolding link_of
returns-then-k-s c = record {
  long = search rules;
  stored = λ h l.
      let slot : c.slot_of-s.result ≡ slot_of c.args.names.now c.args.k (link_of c.args.c.now).role = cc in
      link-stray c.args.m.now _ c.args.k slot _ _ c.if-k-s.true refl;
}

pub returns-then-from-to : goal.returns-then-from-to
unfolding link_of
returns-then-from-to c = record {
  long = search rules;
  stored = λ h l.
      let at : c.byte-to.result ≡ (link_of c.args.c.now).to = cc in
      let from : c.byte-from.result < 8 = omega (arith, c.byte-from.ensures) in
      let to : c.byte-to.result < 8 = omega (arith, at) in
      absurd (false≢true (rw (lt-leb 8 c.byte-from.result from, lt-leb 8 c.byte-to.result to) at c.if-from-to.true));
}

pub returns : goal.returns
unfolding link_of
returns c = record {
  long = search rules;
  stored = λ h l.
      let slot : c.slot_of-s.result ≡ slot_of c.args.names.now c.args.k (link_of c.args.c.now).role = cc in
      let to : c.byte-to.result ≡ (link_of c.args.c.now).to = cc in
      let small : c.byte-to.result < 8 = omega (arith, to, l) in
      let new : c.with.result < 256 = search rules in
      let old : get_or c.args.m.now.links c.place-i.result 0 < 256 = search rules in
      let mask = mask-with c.with.result (get_or c.args.m.now.links c.place-i.result 0) c.byte-to.result new old small c.with.ensures in
      link-in c.args.m.now _ c.args.k slot _ _ c.if-k-s.false c.byte-from.ensures to c.place-i.ensures mask refl;
}
