-- A net that agrees with the links of n objects: what is counted in the net over 8 objects is what is counted of the links over n.
-- Assumes nothing.
use Prim.Native.Nat.{◌*◌, ◌+◌, ◌<◌, ◌≤◌, ℕ}
use native.Mathlib.Omega.{arith}
use mathlib.Core.Bool.{Bool, ◌&&◌, and_assoc, and-false, false, true}
use mathlib.Core.List.{List}
use mathlib.Core.Logic.{⊎_elim}
use mathlib.Core.Path.{◌≡◌, ◌∙◌, ap, ap₂, refl, sym}
use borrow.Author.Tests.{lt-ltb}
use lib.Dec.{ltb}
use Rattle.laws.specs.Bits.{Marks}
use Rattle.laws.specs.Bounded.{tally}
use Rattle.laws.proofs.BoundedLaws.{any-ext, any_none, tally-none}
use Rattle.laws.proofs.ConnectiveLaws.{and_right, known}
use Rattle.laws.proofs.CountLaws.{tally-ext}
use Rattle.laws.proofs.MaskLaws.{tally-beyond}
use Rattle.link_search.specs.Nets.{Net}
use Rattle.link_search.specs.Families.{part, source, whole, whole_in}
use Rattle.link_search.specs.declared.asked.Column.{Column}
use Rattle.link_search.specs.declared.asked.Whole.{Whole}
use Rattle.worlds.specs.declared.Lines.{Lines}
use Rattle.worlds.specs.Kept.{whole_by, whole_of}
use Rattle.leaves.specs.Fitting.{typed}
use Rattle.leaves.specs.Arrays.{WholesAsk}
use Rattle.leaves.proofs.RetypedLaws.{made}
use Rattle.worlds.specs.Lined.{whole_at}

-- tests that hold wherever a link stands can be left out
pub guarded : (a t l : Bool) → (l ≡ true → a ≡ true) → a && t && l ≡ t && l
guarded a t true f = ap (λ (x : Bool). x && t && true) (f refl)
guarded a t false f = and-false (a && t) ∙ sym (and-false t)

pub guarded-two : (a t b u l : Bool) → (l ≡ true → (a ≡ true) × (b ≡ true)) → a && t && (b && u) && l ≡ t && (u && l)
guarded-two a t b u l f =
    and_assoc (a && t) (b && u) l ∙ ap (λ (x : Bool). a && t && x) (guarded b u l (λ e. (f e).1)) ∙ guarded a t (u && l) (λ e. (f (and_right u l e)).0)

-- the links and the net of n objects
pub record Agree (n : ℕ) (link : ℕ → ℕ → ℕ → Bool) (v : Net) : Type 0 where
  pub few : n ≤ 8
  pub at : (s o p : ℕ) → s < 32 → o < 8 → p < 8 → v (o * 32 + s) p ≡ link s o p
  pub inside : (s o p : ℕ) → link s o p ≡ true → (o < n) × (p < n)

module _ (n : ℕ) (types : List ℕ) (link : ℕ → ℕ → ℕ → Bool) (v : Net) (g : Agree n link v) where
  pub off : (s o p : ℕ) → (o < n → p < n → ⊥) → link s o p ≡ false
  off s o p h = ⊎_elim (λ e. let r = g.inside s o p e in absurd (h r.0 r.1)) (λ e. e) (known (link s o p))

  pub row_count : (s o : ℕ) → s < 32 → o < 8 → tally (v (o * 32 + s)) 8 ≡ tally (λ p. link s o p) n
  row_count s o hs ho =
      tally-ext (v (o * 32 + s)) (λ p. link s o p) 8 (λ p h. g.at s o p hs ho h) ∙ tally-beyond (λ p. link s o p) n (λ p h. off s o p (λ a b. omega arith)) 8 g.few

  -- an object that counts in a net is one of its types, with a link
  source-at : (c : Column) (p s set : ℕ) → c.slot ≡ s → p < 8 → Marks (typed types set) n c.from → (o : ℕ) → o < 8 → source c v p o ≡ typed types set o && link s o p
  source-at c p s set e hp m o ho =
      let small = c.slotted in
      ap₂ (λ (a b : Bool). a && b) (m o) (ap (λ (x : ℕ). v (o * 32 + x) p) e ∙ g.at s o p (omega arith) ho hp)
      ∙ guarded (ltb o n) (typed types set o) (link s o p) (λ l. lt-ltb o n (g.inside s o p l).0)

  pub column-count : (c : Column) (p s set : ℕ) → c.slot ≡ s → p < 8 → Marks (typed types set) n c.from → tally (source c v p) 8 ≡ tally (λ o. typed types set o && link s o p) n
  column-count c p s set e hp m =
      tally-ext (source c v p) (λ o. typed types set o && link s o p) 8 (source-at c p s set e hp m)
      ∙ tally-beyond (λ o. typed types set o && link s o p) n (λ o h. ap (λ (b : Bool). typed types set o && b) (off s o p (λ a b. omega arith)) ∙ and-false (typed types set o)) 8 g.few

  module _ (x : Lines) (ws : List Whole) (asks : WholesAsk x types n ws) where
    whole-same : (p o : ℕ) → p < 8 → o < 8 → whole ws v p o ≡ whole_of x (made n types link) p o
    unfolding whole whole_of
    whole-same p o hp ho = any-ext (λ j. part (whole_in ws j) v p o) (whole_by x (made n types link) p o) 16 (λ j h.
        let w = whole_in ws j in
        let small = w.slotted in
        let e = asks j h in
        let same = e.slot-is in
        let s = (whole_at x j).slot in
        let a = typed types (whole_at x j).from o in
        let b = typed types (whole_at x j).to p in
        ap₂ (λ (a b : Bool). a && b && v (o * 32 + w.slot) p) (e.from-are o) (e.to-are p)
        ∙ ap (λ (l : Bool). ltb o n && a && (ltb p n && b) && l) (ap (λ (k : ℕ). v (o * 32 + k) p) same ∙ g.at s o p (omega arith) ho hp)
        ∙ guarded-two (ltb o n) a (ltb p n) b (link s o p) (λ l. let r = g.inside s o p l in (lt-ltb o n r.0, lt-ltb p n r.1)))

    no_whole : (p o : ℕ) → (o < n → p < n → ⊥) → whole_of x (made n types link) p o ≡ false
    unfolding whole_of
    no_whole p o h = any_none (whole_by x (made n types link) p o) 16 (λ j _.
        let a = typed types (whole_at x j).from o in
        let b = typed types (whole_at x j).to p in
        ap (λ (l : Bool). a && (b && l)) (off (whole_at x j).slot o p h) ∙ ap (λ (l : Bool). a && l) (and-false b) ∙ and-false a)

    pub whole-count : (p : ℕ) → p < 8 → tally (whole ws v p) 8 ≡ tally (whole_of x (made n types link) p) n
    whole-count p hp =
        tally-ext (whole ws v p) (whole_of x (made n types link) p) 8 (λ o ho. whole-same p o hp ho)
        ∙ tally-beyond (whole_of x (made n types link) p) n (λ o h. no_whole p o (λ a b. omega arith)) 8 g.few

    pub no-wholes : (p : ℕ) → n ≤ p → tally (whole_of x (made n types link) p) n ≡ 0
    no-wholes p h = tally-none (whole_of x (made n types link) p) n (λ o _. no_whole p o (λ a b. omega arith))
