-- Queries about links without the link back, and about targets of two objects: each asks for what it rules out.
-- Assumes nothing.
use Prim.Native.Nat.{◌<◌, ℕ}
use mathlib.Core.Path.{◌∙◌}
use mathlib.Core.Bool.{Bool}
use native.Mathlib.Omega.{arith}
use Rattle.growing.specs.World.{World}
use Rattle.worlds.specs.declared.Query.{Query}
use Rattle.worlds.specs.Kept.{Sheet}
use Rattle.worlds.proofs.BringLaws.{bring-one, bring-three, bring-two}
use Rattle.queries.specs.Forms.{linked, seeded}
use Rattle.queries.specs.Avoided.{HalfLoopsAvoided, HalvesAvoided, OwnPartsAvoided, PartsAvoided}
use Rattle.queries.proofs.AskedLaws.{asked-barred, asked-linked, barred-asked, barred-link, fit-seeded, linked-asked, linked-link, seeded-many, seeded-typed}
use Rattle.queries.proofs.AvoidedLaws.{Said, said}
use Rattle.queries.proofs.FitLaws.{fit-first, fit-link, fit-loop, fit-own, half_loop_query, half_query, link_query, loop_query, own_part_query, part_query}
use Rattle.queries.proofs.SeedLaws.{linked-as, one-seed, three-seeds, two-seeds}

module _ (x : Sheet) (n : ℕ) (ok : Bool) (m : World) (q : Query) (s u : ℕ) (hs : s < 32) (hu : u < 32) where
  pub half-said : (a c : ℕ) → Said x n ok m q (half_query s u a c) (HalvesAvoided s u a c)
  half-said a c = said x n ok m q (half_query s u a c) (HalvesAvoided s u a c)
      (λ w h d k.
      let l = barred-asked w 2 (link_query s a c) u 1 0 (fit-link s a c hs) hu (omega arith) (omega arith) d in
      let t = linked-asked w 2 (seeded 2 a c 0) s 0 1 (fit-seeded 2 a c 0 (omega arith)) hs (omega arith) (omega arith) l in
      let z = seeded-many w 2 a c 0 t in
      k.at 0 1 (omega arith) (omega arith) (λ e. omega arith) (seeded-typed w 2 a c 0 t 0 (omega arith)) (seeded-typed w 2 a c 0 t 1 (omega arith))
      (linked-link w 2 (seeded 2 a c 0) s 0 1 (fit-seeded 2 a c 0 (omega arith)) hs (omega arith) (omega arith) l)
      (barred-link w 2 (link_query s a c) u 1 0 (fit-link s a c hs) hu (omega arith) (omega arith) d))
      (λ w h none.
      record {
        at = λ o p lo lp ne e f g i.
            let b = bring-two x w h o p lo lp ne in
            none b.world b.allowed b.renumbered.size
            (asked-barred b.world 2 (link_query s a c) u 1 0 (fit-link s a c hs) hu (omega arith) (omega arith)
            (asked-linked b.world 2 (seeded 2 a c 0) s 0 1 (fit-seeded 2 a c 0 (omega arith)) hs (omega arith) (omega arith) (two-seeds x w a c o p b lo lp ne e f)
            (linked-as b.renumbered s 0 1 o p (b.first 0 (omega arith)) (b.first 1 (omega arith)) ∙ g))
            (linked-as b.renumbered u 1 0 p o (b.first 1 (omega arith)) (b.first 0 (omega arith)) ∙ i));
      })

  pub half-loop-said : (a : ℕ) → Said x n ok m q (half_loop_query s u a) (HalfLoopsAvoided s u a)
  half-loop-said a = said x n ok m q (half_loop_query s u a) (HalfLoopsAvoided s u a)
      (λ w h d k.
      let l = barred-asked w 1 (loop_query s a) u 0 0 (fit-loop s a hs) hu (omega arith) (omega arith) d in
      let t = linked-asked w 1 (seeded 1 a 0 0) s 0 0 (fit-seeded 1 a 0 0 (omega arith)) hs (omega arith) (omega arith) l in
      k.at 0 (seeded-many w 1 a 0 0 t) (seeded-typed w 1 a 0 0 t 0 (omega arith))
      (linked-link w 1 (seeded 1 a 0 0) s 0 0 (fit-seeded 1 a 0 0 (omega arith)) hs (omega arith) (omega arith) l)
      (barred-link w 1 (loop_query s a) u 0 0 (fit-loop s a hs) hu (omega arith) (omega arith) d))
      (λ w h none.
      record {
        at = λ o l e g i.
            let b = bring-one x w h o l in
            none b.world b.allowed b.renumbered.size
            (asked-barred b.world 1 (loop_query s a) u 0 0 (fit-loop s a hs) hu (omega arith) (omega arith)
            (asked-linked b.world 1 (seeded 1 a 0 0) s 0 0 (fit-seeded 1 a 0 0 (omega arith)) hs (omega arith) (omega arith) (one-seed x w a o b l e)
            (linked-as b.renumbered s 0 0 o o (b.first 0 (omega arith)) (b.first 0 (omega arith)) ∙ g))
            (linked-as b.renumbered u 0 0 o o (b.first 0 (omega arith)) (b.first 0 (omega arith)) ∙ i));
      })

  pub part-said : (a c d : ℕ) → Said x n ok m q (part_query s u a c d) (PartsAvoided s u a c d)
  part-said a c d = said x n ok m q (part_query s u a c d) (PartsAvoided s u a c d)
      (λ w h y k.
      let l = linked-asked w 3 (linked (seeded 3 a c d) s 1 0) u 2 0 (fit-first s a c d hs) hu (omega arith) (omega arith) y in
      let t = linked-asked w 3 (seeded 3 a c d) s 1 0 (fit-seeded 3 a c d (omega arith)) hs (omega arith) (omega arith) l in
      let z = seeded-many w 3 a c d t in
      k.at 0 1 2 (omega arith) (omega arith) (omega arith) (λ e. omega arith) (λ e. omega arith) (λ e. omega arith) (seeded-typed w 3 a c d t 0 (omega arith)) (seeded-typed w 3 a c d t 1 (omega arith))
      (seeded-typed w 3 a c d t 2 (omega arith)) (linked-link w 3 (seeded 3 a c d) s 1 0 (fit-seeded 3 a c d (omega arith)) hs (omega arith) (omega arith) l)
      (linked-link w 3 (linked (seeded 3 a c d) s 1 0) u 2 0 (fit-first s a c d hs) hu (omega arith) (omega arith) y))
      (λ w h none.
      record {
        at = λ p o r lp lo lr n₁ n₂ n₃ e f g i j.
            let b = bring-three x w h p o r lp lo lr n₁ n₂ n₃ in
            none b.world b.allowed b.renumbered.size
            (asked-linked b.world 3 (linked (seeded 3 a c d) s 1 0) u 2 0 (fit-first s a c d hs) hu (omega arith) (omega arith)
            (asked-linked b.world 3 (seeded 3 a c d) s 1 0 (fit-seeded 3 a c d (omega arith)) hs (omega arith) (omega arith) (three-seeds x w a c d p o r b lp lo lr n₁ n₂ n₃ e f g)
            (linked-as b.renumbered s 1 0 o p (b.first 1 (omega arith)) (b.first 0 (omega arith)) ∙ i))
            (linked-as b.renumbered u 2 0 r p (b.first 2 (omega arith)) (b.first 0 (omega arith)) ∙ j));
      })

  pub own-part-said : (a c : ℕ) → Said x n ok m q (own_part_query s u a c) (OwnPartsAvoided s u a c)
  own-part-said a c = said x n ok m q (own_part_query s u a c) (OwnPartsAvoided s u a c)
      (λ w h y k.
      let l = linked-asked w 2 (linked (seeded 2 a c 0) s 0 0) u 1 0 (fit-own s a c hs) hu (omega arith) (omega arith) y in
      let t = linked-asked w 2 (seeded 2 a c 0) s 0 0 (fit-seeded 2 a c 0 (omega arith)) hs (omega arith) (omega arith) l in
      let z = seeded-many w 2 a c 0 t in
      k.at 0 1 (omega arith) (omega arith) (λ e. omega arith) (seeded-typed w 2 a c 0 t 0 (omega arith)) (seeded-typed w 2 a c 0 t 1 (omega arith))
      (linked-link w 2 (seeded 2 a c 0) s 0 0 (fit-seeded 2 a c 0 (omega arith)) hs (omega arith) (omega arith) l)
      (linked-link w 2 (linked (seeded 2 a c 0) s 0 0) u 1 0 (fit-own s a c hs) hu (omega arith) (omega arith) y))
      (λ w h none.
      record {
        at = λ p r lp lr ne e f g i.
            let b = bring-two x w h p r lp lr ne in
            none b.world b.allowed b.renumbered.size
            (asked-linked b.world 2 (linked (seeded 2 a c 0) s 0 0) u 1 0 (fit-own s a c hs) hu (omega arith) (omega arith)
            (asked-linked b.world 2 (seeded 2 a c 0) s 0 0 (fit-seeded 2 a c 0 (omega arith)) hs (omega arith) (omega arith) (two-seeds x w a c p r b lp lr ne e f)
            (linked-as b.renumbered s 0 0 p p (b.first 0 (omega arith)) (b.first 0 (omega arith)) ∙ g))
            (linked-as b.renumbered u 1 0 r p (b.first 1 (omega arith)) (b.first 0 (omega arith)) ∙ i));
      })
