-- A column is a set of bits, one for each source: what is said of it as such is said of the net.
-- Assumes nothing.
use Prim.Native.Nat.{ℕ, ◌+◌, ◌*◌, ◌≤◌, ◌<◌}
use mathlib.Core.Path.{◌≡◌, sym, ap, subst, ◌∙◌}
use mathlib.Core.Bool.{Bool, true, ◌&&◌}
use mathlib.Core.List.{List}
use native.Mathlib.Nat.{le_refl}
use native.Mathlib.Omega.{arith}
use Rattle.laws.specs.Bits.{bit, Marks}
use Rattle.laws.proofs.ConnectiveLaws.{and_left, and_right, and_both}
use Rattle.laws.proofs.CountLaws.{tally-le}
use Rattle.laws.proofs.MaskLaws.{tally-masked, marks-at}
use Rattle.link_search.specs.Nets.{net_of}
use Rattle.link_search.specs.Families.{source, Within, limits_at}
use Rattle.link_search.specs.declared.asked.Column.{Column}
use Rattle.std.specs.Prelude.{Option, None, Some, Result, Ok, Err}
use Rattle.link_search.specs.Answers.{BitsJudged, ColumnSaid}
use Rattle.link_search.specs.declared.NoNet.{NoNet}

module _ (c : Column) (must may : List ℕ) (p : ℕ) where
  -- the masks of a column's sources say what the column says
  pub column-said : (y a : ℕ) (v : Result (Option ℕ) NoNet) → p < 8 → Marks (source c (net_of must) p) 8 y → Marks (source c (net_of may) p) 8 a
      → BitsJudged y a (limits_at c.limits p) v → ColumnSaid c must may p v
  column-said y a (Ok None) hp ys ms g = subst (Within (limits_at c.limits p)) (tally-masked (source c (net_of must) p) y 8 8 (le_refl 8) ys) g
  column-said y a (Ok (Some o)) hp ys ms g =
      (g.0, and_right (bit o (c.from)) (net_of may (o * 32 + c.slot) p) (sym (marks-at (source c (net_of may) p) 8 a ms o g.0) ∙ g.1))
  column-said y a (Err e) hp ys ms g =
      let s = c.slot in
      let small : c.slot < 32 = c.slotted in
      let here : ℕ → Bool = λ (o : ℕ). bit o (c.from) in
      λ w b ok. g (source c w p)
      (λ o l h. let z : source c (net_of must) p o ≡ true = sym (marks-at (source c (net_of must) p) 8 y ys o l) ∙ h in
      and_both (here o) (w (o * 32 + s) p) (and_left (here o) (net_of must (o * 32 + s) p) z)
      (b.least (o * 32 + s) p (omega arith) hp (and_right (here o) (net_of must (o * 32 + s) p) z)))
      (λ o l h f. let i = and_left (here o) (w (o * 32 + s) p) h in
      marks-at (source c (net_of may) p) 8 a ms o l
      ∙ and_both (here o) (net_of may (o * 32 + s) p) i
      (b.most (o * 32 + s) p (omega arith) hp (and_right (here o) (w (o * 32 + s) p) h)
      (sym (ap (λ (t : Bool). t && net_of must (o * 32 + s) p) i) ∙ sym (marks-at (source c (net_of must) p) 8 y ys o l) ∙ f)))
      ok

  -- limits that ask nothing
  pub column-free : (limits_at c.limits p).low ≡ 0 → 8 ≤ (limits_at c.limits p).high → ColumnSaid c must may p (Ok None)
  column-free l h = record { least = omega arith; most = omega (arith, tally-le (source c (net_of must) p) 8, h) }
