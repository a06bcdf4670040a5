-- Queries about one object or two: each asks for what it rules out, in some numbering of the objects.
-- Assumes nothing.
use Prim.Native.Nat.{◌<◌, ℕ}
use mathlib.Core.Path.{◌∙◌, ◌≡◌, ap, refl, subst, sym}
use mathlib.Core.Bool.{Bool, false, true}
use native.Mathlib.Omega.{arith}
use Rattle.laws.specs.Bits.{bit}
use Rattle.laws.specs.Bounded.{tally}
use Rattle.laws.proofs.ConnectiveLaws.{true-false}
use Rattle.growing.specs.World.{World, source_count}
use Rattle.link_search.specs.Nets.{InLimits}
use Rattle.worlds.specs.declared.Query.{Query}
use Rattle.worlds.specs.Kept.{Allowed, Sheet, TypesAvoided}
use Rattle.worlds.specs.Asked.{Answers, Satisfies, Breaks, Solution}
use Rattle.worlds.proofs.RenumberLaws.{column-tally, row-tally}
use Rattle.worlds.proofs.BringLaws.{bring-one, bring-two}
use Rattle.queries.specs.Forms.{avoiding, columned, rowed, seeded}
use Rattle.queries.specs.Avoided.{ColumnsAvoided, LinksAvoided, LoopsAvoided, PairsAvoided, RowsAvoided}
use Rattle.queries.proofs.AskedLaws.{asked-avoiding, asked-columned, asked-linked, asked-rowed, asked-seeded, avoiding-all, columned-asked, columned-within, fit-seeded, linked-asked, linked-link, rowed-asked, rowed-within, seeded-many, seeded-typed}
use Rattle.queries.proofs.BreakLaws.{breaks-query}
use Rattle.queries.proofs.FitLaws.{link_query, loop_query}
use Rattle.queries.proofs.SeedLaws.{linked-as, one-seed, two-seeds}

module _ (x : Sheet) (n : ℕ) (ok : Bool) (m : World) where
  -- the answer to a query q, which is known to be the query z
  abbrev pub Said : Query → Query → (World → Type 0) → Type 0
  Said q z K = q ≡ z → Answers (Solution x q n) ok m → Breaks x K n ok m

  pub said : (q z : Query) (K : World → Type 0) → ((w : World) → Allowed x w → Satisfies z w → K w → ⊥)
      → ((w : World) → Allowed x w → ((v : World) → Allowed x v → v.size ≡ w.size → Satisfies z v → ⊥) → K w) → Said q z K
  said q z K sound complete e a = breaks-query x n ok m K z sound complete (subst (λ (y : Query). Answers (Solution x y n) ok m) e a)

  pub typed-said : (q : Query) (a : ℕ) → Said q (seeded 1 a 0 0) (TypesAvoided a)
  typed-said q a = said q (seeded 1 a 0 0) (TypesAvoided a)
      (λ w h s k. true-false (seeded-typed w 1 a 0 0 s 0 (omega arith)) (k.at 0 (seeded-many w 1 a 0 0 s)))
      (λ w h none. record { at = λ o l. go w h none o l (bit (w.kind o) a) refl })
    where
      go : (w : World) (h : Allowed x w) → ((v : World) → Allowed x v → v.size ≡ w.size → Satisfies (seeded 1 a 0 0) v → ⊥) → (o : ℕ) → o < w.size
          → (t : Bool) → bit (w.kind o) a ≡ t → bit (w.kind o) a ≡ false
      go w h none o l false e = e
      go w h none o l true e = let b = bring-one x w h o l in absurd (none b.world b.allowed b.renumbered.size (one-seed x w a o b l e))

  pub any-said : (q : Query) → Said q (seeded 0 0 0 0) (λ _. ⊥)
  any-said q = said q (seeded 0 0 0 0) (λ _. ⊥) (λ w h s k. k) (λ w h none. none w h refl (asked-seeded w 0 0 0 0 h.few (omega arith) (λ o l. absurd (omega arith))))

  -- some object is of the types a
  pub absent-said : (q : Query) (a : ℕ) → Said q (avoiding (seeded 0 0 0 0) a) (λ w. TypesAvoided a w → ⊥)
  absent-said q a = said q (avoiding (seeded 0 0 0 0) a) (λ w. TypesAvoided a w → ⊥)
      (λ w h s k. k (record { at = avoiding-all w h.few a s }))
      (λ w h none k. none w h refl (asked-avoiding w h.few a k.at))

  pub pair-said : (q : Query) (a : ℕ) → Said q (seeded 2 a a 0) (PairsAvoided a)
  pair-said q a = said q (seeded 2 a a 0) (PairsAvoided a)
      (λ w h s k.
      let z = seeded-many w 2 a a 0 s in
      k.at 0 1 (omega arith) (omega arith) (λ e. omega arith) (seeded-typed w 2 a a 0 s 0 (omega arith)) (seeded-typed w 2 a a 0 s 1 (omega arith)))
      (λ w h none.
      record {
        at = λ o p lo lp ne e f.
            let b = bring-two x w h o p lo lp ne in none b.world b.allowed b.renumbered.size (two-seeds x w a a o p b lo lp ne e f);
      })

  module _ (q : Query) (s : ℕ) (hs : s < 32) where
    pub link-said : (a c : ℕ) → Said q (link_query s a c) (LinksAvoided s a c)
    link-said a c = said q (link_query s a c) (LinksAvoided s a c)
        (λ w h d k.
        let t = linked-asked w 2 (seeded 2 a c 0) s 0 1 (fit-seeded 2 a c 0 (omega arith)) hs (omega arith) (omega arith) d in
        let z = seeded-many w 2 a c 0 t in
        k.at 0 1 (omega arith) (omega arith) (λ e. omega arith) (seeded-typed w 2 a c 0 t 0 (omega arith)) (seeded-typed w 2 a c 0 t 1 (omega arith))
        (linked-link w 2 (seeded 2 a c 0) s 0 1 (fit-seeded 2 a c 0 (omega arith)) hs (omega arith) (omega arith) d))
        (λ w h none.
        record {
          at = λ o p lo lp ne e f g.
              let b = bring-two x w h o p lo lp ne in
              none b.world b.allowed b.renumbered.size
              (asked-linked b.world 2 (seeded 2 a c 0) s 0 1 (fit-seeded 2 a c 0 (omega arith)) hs (omega arith) (omega arith) (two-seeds x w a c o p b lo lp ne e f)
              (linked-as b.renumbered s 0 1 o p (b.first 0 (omega arith)) (b.first 1 (omega arith)) ∙ g));
        })

    pub loop-said : (a : ℕ) → Said q (loop_query s a) (LoopsAvoided s a)
    loop-said a = said q (loop_query s a) (LoopsAvoided s a)
        (λ w h d k.
        let t = linked-asked w 1 (seeded 1 a 0 0) s 0 0 (fit-seeded 1 a 0 0 (omega arith)) hs (omega arith) (omega arith) d in
        k.at 0 (seeded-many w 1 a 0 0 t) (seeded-typed w 1 a 0 0 t 0 (omega arith))
        (linked-link w 1 (seeded 1 a 0 0) s 0 0 (fit-seeded 1 a 0 0 (omega arith)) hs (omega arith) (omega arith) d))
        (λ w h none.
        record {
          at = λ o l e g.
              let b = bring-one x w h o l in
              none b.world b.allowed b.renumbered.size
              (asked-linked b.world 1 (seeded 1 a 0 0) s 0 0 (fit-seeded 1 a 0 0 (omega arith)) hs (omega arith) (omega arith) (one-seed x w a o b l e)
              (linked-as b.renumbered s 0 0 o o (b.first 0 (omega arith)) (b.first 0 (omega arith)) ∙ g));
        })

    pub row-said : (a low high : ℕ) → Said q (rowed (seeded 1 a 0 0) s low high) (RowsAvoided s a low high)
    row-said a low high = said q (rowed (seeded 1 a 0 0) s low high) (RowsAvoided s a low high)
        (λ w h d k.
        let t = rowed-asked w h.few a s low high d in
        k.at 0 (seeded-many w 1 a 0 0 t) (seeded-typed w 1 a 0 0 t 0 (omega arith)) (rowed-within w h.few a s low high d))
        (λ w h none.
        record {
          at = λ o l e g.
              let b = bring-one x w h o l in
              let c : tally (λ p. b.world.link s 0 p) b.world.size ≡ tally (λ p. w.link s o p) w.size =
              row-tally b.renumbered s 0 ∙ ap (λ (i : ℕ). tally (λ p. w.link s i p) w.size) (b.first 0 (omega arith)) in
              none b.world b.allowed b.renumbered.size
              (asked-rowed b.world b.allowed.few a s low high (one-seed x w a o b l e) (subst (InLimits low high) (sym c) g));
        })

    pub column-said : (a from low high : ℕ) → Said q (columned (seeded 1 a 0 0) s from low high) (ColumnsAvoided s a from low high)
    column-said a from low high = said q (columned (seeded 1 a 0 0) s from low high) (ColumnsAvoided s a from low high)
        (λ w h d k.
        let t = columned-asked w h.few a s from low high d in
        k.at 0 (seeded-many w 1 a 0 0 t) (seeded-typed w 1 a 0 0 t 0 (omega arith)) (columned-within w h.few a s from low high d))
        (λ w h none.
        record {
          at = λ o l e g.
              let b = bring-one x w h o l in
              let c : source_count b.world s from 0 ≡ source_count w s from o =
              column-tally b.renumbered from s 0 ∙ ap (source_count w s from) (b.first 0 (omega arith)) in
              none b.world b.allowed b.renumbered.size
              (asked-columned b.world b.allowed.few a s from low high (one-seed x w a o b l e) (subst (InLimits low high) (sym c) g));
        })
