-- `fold` over an iterator whose items are a list: what its closure may be asked, and what holds of the result.
-- Assumes nothing.
use Prim.Native.Nat.{ℕ, suc, ◌+◌, ◌<◌}
use native.Mathlib.Omega.{arith}
use mathlib.Core.List.{List, [], ◌∷◌, ◌++◌, map, append-nil, append_assoc}
use mathlib.Core.Path.{◌≡◌, refl, sym, ap, subst, ◌∙◌}
use lib.ListN.{length, get_or, length-append}
use lib.Seq.{get_or-append_seam}
use denote.Param.Members.{Mut}
use Rattle.std.specs.declared.option.Option.{Option}
use Rattle.std.specs.Prelude.{Some}
use Rattle.std.specs.Iterator.{Drains, FoldTurn, CallableAtEachTurn}
use Rattle.std.specs.List.{FoldsTo}
use Rattle.std.specs.Fn.{Called, Takes}
use Rattle.std.proofs.iter.Yields.{serves_by, gives_Drains}
use Rattle.std.proofs.lemmas.Iterator.{YieldsList}
use Rattle.std.proofs.lemmas.Iterator.Consumers.{YieldsList-turn}

module _ {S A B C F : Type 0} {steps : S → Option A → S → Type 0} {g : Mut F (B × (A × Unit {0})) B} {f : F} {v : A → C} {s : S} {all : List C} (road : YieldsList steps v s all) where
  pub fold-served : (init : B) → ((a : B) (x : A) (b : B) (q : F) → Called g f (a, (x, tt)) b q → q ≡ f)
      → ((a : B) (x : A) (k : ℕ) → k < length all → v x ≡ get_or all k (v x) → Takes g f (a, (x, tt)))
      → CallableAtEachTurn {P = F × B} steps (FoldTurn g) (λ p x. Takes g p.0 (p.1, (x, tt))) s (f, init)
  fold-served init stays h = serves_by (FoldTurn g) (λ xs q. q.0 ≡ f) (λ xs q x w j r. stays q.1 x w.1 w.0 (subst (λ k. Called g k (q.1, (x, tt)) w.1 w.0) j r))
      steps (λ p x. Takes g p.0 (p.1, (x, tt))) s (f, init) refl
      (λ xs t q x u y e j. let m = YieldsList-turn road xs t y (Some x) u x refl e in subst (λ k. Takes g k (q.1, (x, tt))) (sym j) (h q.1 x (length xs) m.0 m.1))

  -- what holds at 0 of the start, and with each call of one item more, holds of the result and of all
  module _ (P : ℕ → B → Type 0) (turn : (k : ℕ) (a : B) (x : A) (b : B) (q : F) → k < length all → v x ≡ get_or all k (v x) → P k a → Called g f (a, (x, tt)) b q → (q ≡ f) × P (k + 1) b) where
    folded : (xs : List A) (done : List C) (a r : B) (h j : F) → done ++ map v xs ≡ all → h ≡ f → P (length done) a → FoldsTo {P = F × B} (FoldTurn g) (h, a) xs (j, r)
        → P (length all) r
    folded [] done a r h j e k p w =
        let q : length done ≡ length all = ap length (sym (append-nil done) ∙ e) in
        subst (λ (n : ℕ). P n r) q (subst (P (length done)) (ap (λ t. t.1) w) p)
    folded (x ∷ xs) done a r h j e k p w =
        let here : v x ≡ get_or all (length done) (v x) = sym (get_or-append_seam done (v x) (map v xs) (v x)) ∙ ap (λ (l : List C). get_or l (length done) (v x)) e in
        let size : length done + suc (length (map v xs)) ≡ length all = sym (length-append done (v x ∷ map v xs)) ∙ ap length e in
        let t = turn (length done) a x w.0.1 w.0.0 (omega arith) here p (subst (λ y. Called g y (a, (x, tt)) w.0.1 w.0.0) k w.1) in
        let more : length (done ++ (v x ∷ [])) ≡ length done + 1 = length-append done (v x ∷ []) in
        folded xs (done ++ (v x ∷ [])) w.0.1 r w.0.0 j (append_assoc done (v x ∷ []) (map v xs) ∙ e) t.0 (subst (λ (n : ℕ). P n w.0.1) (sym more) t.1) w.2

    pub fold-holds : {init r : B} → (xs : List A) × (j : F) × Drains steps s xs × FoldsTo {P = F × B} (FoldTurn g) (f, init) xs (j, r) → P 0 init → P (length all) r
    fold-holds {init} {r} ran p =
        folded ran.0 [] init r f ran.1 (gives_Drains steps v ran.0 all s road.runs ran.2) refl p ran.3
