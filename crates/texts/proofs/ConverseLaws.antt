-- What the table accepts is the row of a tree's tokens: what is accepted from a state is what may follow there, from the end of the
-- row to its front.
-- Assumes nothing.
use Prim.Native.Nat.{suc, zero, ℕ}
use mathlib.Core.Bool.{Bool, cond, false, true}
use mathlib.Core.List.{List, [], ◌∷◌}
use mathlib.Core.Path.{◌∙◌, ◌≡◌, ap, refl, subst, sym}
use lib.Dec.{eqb}
use lib.ListN.{get_or}
use borrow.Author.Tests.{eqb-true}
use Rattle.texts.specs.Grammar.{Tree, named, open_brace, quoted, tokens_of}
use Rattle.texts.specs.Table.{Edge, accepts, lookup, marks_below, next, table}
use Rattle.texts.specs.Token.{Token, class_of, word}
use Rattle.laws.proofs.ConnectiveLaws.{both_of}
use Rattle.texts.proofs.MarkLaws.{first_below, others_below}
use Rattle.texts.proofs.Parts.{Follow}
use Rattle.texts.proofs.TableEdges.{AllSound, At, Sound, follows, sound}
use Rattle.texts.proofs.TokenClassLaws.{Meant, meant}

sound-at : (Ps : List Follow) (states : List (List Edge)) → AllSound Ps states → (q : ℕ) → Sound (get_or Ps q (λ ts. ⊥)) (get_or states q [])
sound-at [] [] s q = tt
sound-at [] (es ∷ states) s q = absurd s
sound-at (P ∷ Ps) [] s q = tt
sound-at (P ∷ Ps) (es ∷ states) s zero = s.0
sound-at (P ∷ Ps) (es ∷ states) s (suc q) = sound-at Ps states s.1 q

edge-back : (P : Follow) (es : List Edge) → Sound P es → (t : Token) (ts : List Token) → Meant (class_of t) t → At (lookup es (class_of t)) ts → P (t ∷ ts)
unfolding lookup
edge-back P [] s t ts m r = absurd r
edge-back P (e ∷ es) s t ts m r = go (eqb e.class (class_of t)) refl r (edge-back P es s.1 t ts m)
  where
    go : (b : Bool) → eqb e.class (class_of t) ≡ b → At (cond b e.next (lookup es (class_of t))) ts → (At (lookup es (class_of t)) ts → P (t ∷ ts)) → P (t ∷ ts)
    go true h k f = s.0 t ts (subst (λ (c : ℕ). Meant c t) (sym (eqb-true e.class (class_of t) h)) m) k
    go false h k f = f k

accepted-at : (q : ℕ) (ts : List Token) → marks_below ts ≡ true → accepts q ts ≡ true → At q ts
unfolding accepts next
accepted-at q [] h e = subst (λ (n : ℕ). At n []) (sym (eqb-true q 45 e)) refl
accepted-at q (t ∷ ts) h e =
    edge-back (At q) (get_or table q []) (sound-at follows table sound q) t ts (meant t (first_below t ts h))
    (accepted-at (next q (class_of t)) ts (others_below t ts h) e)

pub accepts-tree : (ts : List Token) → marks_below ts ≡ true → accepts 0 ts ≡ true → (t : Tree) × (tokens_of t ≡ ts) × (named t ≡ true)
unfolding tokens_of named
accepts-tree ts h e = go (accepted-at 0 ts h e)
  where
    go : At 0 ts → (t : Tree) × (tokens_of t ≡ ts) × (named t ≡ true)
    go r =
        let n = r.follows in
        let b = n.follows in
        let is = b.follows in (
          record { name = n.part; items = is.items },
          sym (r.written ∙ ap {B = List Token} (λ x. quoted 0 ∷ x) (n.written
              ∙ ap {B = List Token} (λ x. word n.part ∷ x) (b.written ∙ ap {B = List Token} (λ x. open_brace ∷ x) is.written))),
          both_of _ _ n.fits is.are-named,
        )
