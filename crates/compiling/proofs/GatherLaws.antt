-- Association by association, the entries become those of the diagram.
-- Assumes nothing.
use Prim.Native.Nat.{ℕ, ◌+◌, ◌*◌, ◌<◌, ◌≤◌}
use native.Mathlib.Omega.{arith}
use native.Mathlib.Decide.{dec_lt}
use mathlib.Core.List.{List, ◌++◌}
use mathlib.Core.Path.{◌≡◌, refl, sym, ap, ◌∙◌}
use lib.ListN.{length, get_or, replicate, get_or-eq_default, length-replicate}
use Rattle.laws.specs.Lists.{joined}
use Rattle.laws.proofs.JoinedLaws.{joined-more, joined-ext}
use Rattle.std.proofs.lemmas.List.{get_or-replicate}
use Rattle.files.specs.Diagram.{Association, association_at}
use Rattle.diagrams.specs.View.{association_in, diagram_of}
use Rattle.diagrams.specs.Held.{Held}
use Rattle.diagrams.specs.declared.Associations.{Associations}
use Rattle.diagrams.specs.declared.StoredDiagram.{StoredDiagram}
use Rattle.diagrams.proofs.ViewLaws.{association-count, association-at}
use Rattle.rules.specs.Compile.{Entry, bare, compile, entries_of, entry_at}
use Rattle.entries.specs.declared.Entries.{Entries}
use Rattle.entries.specs.View.{Appends, entries_in, entry_in, entry_seen, no_entries, zero_entry}
use Rattle.entries.specs.declared.Entry as stored
use Rattle.compiling.specs.Compiled.{Compiles, Gathered, entries_to}
use Rattle.entries.proofs.AppendLaws.{entry-at, grown, number_is}

zero-at : (n k : ℕ) → get_or (replicate n zero_entry) k zero_entry ≡ zero_entry
zero-at n k = go (dec_lt k n)
  where
    go : Dec (k < n) → get_or (replicate n zero_entry) k zero_entry ≡ zero_entry
    go (yes l) = get_or-replicate n k zero_entry zero_entry l
    go (no l) = get_or-eq_default (replicate n zero_entry) zero_entry (let h : length (replicate n zero_entry) ≤ k = omega (arith, length-replicate {A = stored.Entry} n zero_entry) in h)

module _ (a : Associations) where
  pub gathered_none : Gathered a 0 no_entries
  unfolding no_entries entries_in entries_to joined entry_in
  gathered_none = record { entries = refl; most = omega arith; rest = λ k h. ap entry_seen (zero-at 64 k) }

  pub gathered-more : {i : ℕ} {r q : Entries} → Gathered a i r → Appends r q (entries_of i (association_in a i)) → q.number ≤ r.number + 4 → Gathered a (i + 1) q
  unfolding entries_to
  gathered-more {i} {r} {q} g f h =
      let v = entries_of i (association_in a i) in
      record {
        entries = f.gained ∙ ap (λ (l : List Entry). l ++ v) g.entries ∙ sym (joined-more (λ k. entries_of k (association_in a k)) i);
        most = let m : r.number ≤ i * 4 = g.most in omega arith;
        rest = λ k l. f.kept k l ∙ g.rest k (let m : r.number ≤ k = omega (arith, grown f) in m);
      }

module _ (d : StoredDiagram) (held : Held d) where
  pub arrow-known : (i : ℕ) → i < d.associations.count → (association_in d.associations i).arrow < 5
  arrow-known i l =
      let h : i < length (diagram_of d).associations = omega (arith, association-count d) in
      let w : (association_at (diagram_of d) i).arrow ≤ 4 = (held.wf.association i h).arrow-last in
      omega (arith, ap (λ (a : Association). a.arrow) (association-at d i l), w)

  compiled-is : entries_to d.associations d.associations.count ≡ compile (diagram_of d)
  unfolding entries_to compile
  compiled-is =
      sym (ap (joined (λ i. entries_of i (association_at (diagram_of d) i))) (association-count d)
      ∙ joined-ext (λ i. entries_of i (association_at (diagram_of d) i)) (λ i. entries_of i (association_in d.associations i)) d.associations.count
      (λ i l. ap (entries_of i) (association-at d i l)))

  pub gathered-all : {r : Entries} (i : ℕ) → i ≡ d.associations.count → Gathered d.associations i r → Compiles d r
  gathered-all {r} i p g =
      let few : d.associations.count ≤ 16 = held.counts.associations in
      let most : r.number ≤ i * 4 = g.most in
      record { entries = g.entries ∙ ap (entries_to d.associations) p ∙ compiled-is; few = omega arith; rest = g.rest }

-- ---- what was compiled, by index

module _ (d : StoredDiagram) (e : Entries) (c : Compiles d e) where
  pub compiled-number : e.number ≡ length (compile (diagram_of d))
  compiled-number = sym (number_is e) ∙ ap length c.entries

  pub compiled-at : (k : ℕ) → entry_in e k ≡ entry_at (compile (diagram_of d)) k
  compiled-at k = go (dec_lt k e.number)
    where
      go : Dec (k < e.number) → entry_in e k ≡ entry_at (compile (diagram_of d)) k
      go (yes l) = sym (entry-at e k l) ∙ ap (λ (es : List Entry). entry_at es k) c.entries
      go (no l) =
          let h : length (compile (diagram_of d)) ≤ k = omega (arith, compiled-number) in
          c.rest k (let m : e.number ≤ k = omega arith in m) ∙ sym (get_or-eq_default (compile (diagram_of d)) (bare 0 0) h)
