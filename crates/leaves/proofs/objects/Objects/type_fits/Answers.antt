-- `type_fits` meets its contract: a seed by its set, another object by the query's other one.
-- Assumes nothing.
use Prim.Native.Nat.{ℕ}
use mathlib.Core.Bool.{Bool, cond, not, ◌&&◌}
use mathlib.Core.Path.{◌∙◌, ap, ap₂, sym}
use native.Mathlib.Omega.{arith}
use borrow.Author.Tests.{le-ltb, lt-ltb}
use lib.ListN.{get_or}
use Rattle.leaves.specs.Fitting.{type_fits, typed}
use Rattle.leaves.proofs.objects.Objects.type_fits.Goals as goal

pub returns-then-o-self : goal.returns-then-o-self
unfolding type_fits
returns-then-o-self c =
    let o = c.args.o in
    let a = c.args.self.now in
    let t = a.types.now.at in
    let q = a.q.now in
    ap₂ (λ (x y : Bool). x && y) (c.is_in.ensures ∙ ap (λ (i : ℕ). typed t c.args.usable i) c.from-i.ensures)
    (c.is_in-then-o-self.ensures ∙ ap (λ (i : ℕ). typed t (get_or q.types i 0) i) c.from-i.ensures
    ∙ sym (ap (λ (b : Bool). cond b (typed t (get_or q.types o 0) o) (not (typed t q.never o))) (lt-ltb o q.seeds c.if-o-self.true)))

pub returns : goal.returns
unfolding type_fits
returns c =
    let o = c.args.o in
    let a = c.args.self.now in
    let t = a.types.now.at in
    let q = a.q.now in
    ap₂ (λ (x y : Bool). x && y) (c.is_in-2.ensures ∙ ap (λ (i : ℕ). typed t c.args.usable i) c.from-i.ensures)
    (ap not (c.is_in-3.ensures ∙ ap (λ (i : ℕ). typed t q.never i) c.from-i.ensures)
    ∙ sym (ap (λ (b : Bool). cond b (typed t (get_or q.types o 0) o) (not (typed t q.never o))) (le-ltb o q.seeds (omega (arith, c.if-o-self.false)))))
