-- From a net to a wanted world: where the types fit and each link that must stand may, a net between the two that fits what the
-- arrays ask is the links of a wanted world.
-- Assumes nothing.
use Prim.Native.Nat.{◌%◌, ◌*◌, ◌+◌, ◌/◌, ◌<◌, ◌≤◌, ℕ}
use native.Mathlib.Omega.{arith}
use mathlib.Core.Bool.{Bool, ◌&&◌, true}
use mathlib.Core.List.{List}
use mathlib.Core.Logic.{⊎_elim}
use mathlib.Core.Path.{◌≡◌, ◌∙◌, ap, ap₂, refl, sym}
use borrow.Author.Tests.{le-ltb, lt-ltb, ltb-true}
use lib.Dec.{ltb}
use lib.ListN.{get_or}
use Rattle.laws.proofs.ConnectiveLaws.{and_left, and_right, known, true-false}
use Rattle.link_search.specs.Nets.{Between, net_of}
use Rattle.link_search.specs.Families.{Fits}
use Rattle.worlds.specs.declared.Lines.{Lines}
use Rattle.worlds.specs.declared.Query.{Query}
use Rattle.worlds.specs.Coherent.{SmallTypes}
use Rattle.worlds.specs.Kept.{sheet}
use Rattle.worlds.specs.Asked.{Sane, Solution}
use Rattle.link_search.specs.declared.asked.NetConstraints.{NetConstraints}
use Rattle.leaves.specs.Fitting.{typed}
use Rattle.leaves.specs.Arrays.{Prepared, all_covered}
use Rattle.leaves.proofs.FittingLaws.{Fit}
use Rattle.leaves.proofs.RetypedLaws.{made}
use Rattle.leaves.proofs.NetCountLaws.{Agree}
use Rattle.leaves.proofs.RowLaws.{limited-of, row-asked-of}
use Rattle.leaves.proofs.ColumnLaws.{column-asked-of, columns-kept}
use Rattle.leaves.proofs.PairLaws.{mirrors-kept, wholes-kept}
use Rattle.leaves.proofs.MayLaws.{Open, covered-at, may_at}

-- the links of a net in an array
abbrev pub links_in : List ℕ → ℕ → ℕ → ℕ → Bool
links_in rows s o p = ltb s 32 && (ltb o 8 && (ltb p 8 && net_of rows (o * 32 + s) p))

module _ (usable singles : ℕ) (targets lows highs : List ℕ) (x : Lines) (q : Query) (types : List ℕ) (n : ℕ) (sane : Sane q) (few : n ≤ 8) (small : SmallTypes types)
    (fit : Fit usable singles q types n) (may : List ℕ) (net : NetConstraints) (a : Prepared targets lows highs x q types n may net)
    (all-may : all_covered q.must may ≡ true) (rows : List ℕ) (b : Between q.must may (net_of rows))
    (f : Fits net (net_of rows)) where
  -- a link that stands
  stands : (s o p : ℕ) → s < 32 → o < 8 → p < 8 → net_of rows (o * 32 + s) p ≡ links_in rows s o p
  stands s o p hs ho hp = sym (ap₂ (λ (u v : Bool). u && (v && (ltb p 8 && net_of rows (o * 32 + s) p))) (lt-ltb s 32 hs) (lt-ltb o 8 ho) ∙ ap (λ (u : Bool). u && net_of rows (o * 32 + s) p) (lt-ltb p 8 hp))

  open_at : (i p : ℕ) → i < 256 → p < 8 → net_of rows i p ≡ true → Open targets types n q.shut i p
  open_at i p h l e =
      may_at targets types n q.shut may a.mays i p h
      (⊎_elim (λ z. covered-at q.must may all-may i p h l z) (λ z. b.most i p h l e z) (known (net_of q.must i p)))

  -- what a link says of its ends
  pub record Standing (s o p : ℕ) : Type 0 where
    pub slot : s < 32
    pub source : o < n
    pub target : p < n
    pub allowed : Open targets types n q.shut (o * 32 + s) p

  standing : (s o p : ℕ) → links_in rows s o p ≡ true → Standing s o p
  standing s o p e =
      let hs = ltb-true s 32 (and_left (ltb s 32) _ e) in
      let e₁ = and_right (ltb s 32) (ltb o 8 && (ltb p 8 && net_of rows (o * 32 + s) p)) e in
      let ho = ltb-true o 8 (and_left (ltb o 8) _ e₁) in
      let e₂ = and_right (ltb o 8) (ltb p 8 && net_of rows (o * 32 + s) p) e₁ in
      let hp = ltb-true p 8 (and_left (ltb p 8) _ e₂) in
      let t = open_at (o * 32 + s) p (omega arith) hp (and_right (ltb p 8) (net_of rows (o * 32 + s) p) e₂) in
      record { slot = hs; source = omega (arith, t.row); target = t.target; allowed = t }

  found-agrees : Agree n (links_in rows) (net_of rows)
  found-agrees = record { few = few; at = stands; inside = λ s o p e. let t = standing s o p e in (t.source, t.target) }

  pub found-wanted : Solution (sheet usable singles targets lows highs x) q n (made n types (links_in rows))
  found-wanted = record {
    allowed = record {
      few = few;
      past = λ s o p h. ap (λ (u : Bool). u && (ltb o 8 && (ltb p 8 && net_of rows (o * 32 + s) p))) (le-ltb s 32 h);
      inside = found-agrees.inside;
      known = λ o _. small o;
      usable = fit.usable-types;
      singles = record { at = fit.single };
      rows = record {
        allowed = λ s o p hs ho hp e.
            let d : (o * 32 + s) / 32 ≡ o = omega arith in
            let m : (o * 32 + s) % 32 ≡ s = omega arith in
            ap₂ (λ (y z : ℕ). typed types (get_or targets (get_or types y 0 * 32 + z) 0) p) (sym d) (sym m) ∙ (standing s o p e).allowed.allowed;
        limited = limited-of lows highs types n q net.rows a.rows sane.row (links_in rows) (net_of rows) found-agrees f.rows;
      };
      columns = columns-kept types n (links_in rows) (net_of rows) found-agrees x q net.columns a.columns f.columns;
      mirrors = mirrors-kept x types n (links_in rows) (net_of rows) found-agrees net.mirrors a.mirrors f.mirrors;
      wholes = wholes-kept x types n (links_in rows) (net_of rows) found-agrees net.wholes a.wholes f.wholes;
    };
    asked = record {
      many = fit.many;
      typed = fit.wanted;
      avoids = fit.never;
      must = λ o s p ho hs hp e. sym (stands s o p hs ho hp) ∙ b.least (o * 32 + s) p (omega arith) hp e;
      shut = λ o s p ho hs hp e. ⊎_elim (λ z. absurd (true-false e (standing s o p z).allowed.free)) (λ z. z) (known (links_in rows s o p));
      row = row-asked-of lows highs types n q net.rows a.rows sane.row (links_in rows) (net_of rows) found-agrees f.rows;
      column = column-asked-of types n (links_in rows) (net_of rows) found-agrees x q net.columns a.columns f.columns;
    };
    size = refl;
  }
