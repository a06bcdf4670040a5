-- One bit decided: the nets between the narrower bounds are those between the wider ones that agree at the bit, and one bit less
-- is open. A try that fails is undone.
-- Assumes nothing.
use Prim.Native.Nat.{ℕ, ◌+◌, ◌*◌, ◌/◌, ◌%◌, ◌<◌}
use mathlib.Core.Path.{◌≡◌, refl, sym, ap, subst, ◌∙◌}
use mathlib.Core.Bool.{Bool, true, false, not, ◌&&◌, ◌||◌, true≢false, false≢true, and-false, and-true, or-false, or-true}
use mathlib.Core.List.{List}
use native.Mathlib.Omega.{arith}
use lib.Dec.{eqb}
use lib.ListN.{length, get_or, set, length-set}
use lib.Seq.{get_or-set_same, get_or-set_other, set-get_or, set-set}
use borrow.Author.Tests.{eqb-true, eqb-false, eq-eqb, ne_eqb}
use Rattle.laws.specs.Bits.{bit}
use Rattle.laws.proofs.ConnectiveLaws.{true-false}
use Rattle.laws.proofs.CountLaws.{tally-less}
use Rattle.link_search.specs.Nets.{Net, net_of, Between, open_bits}
use Rattle.link_search.specs.declared.Spot.{Spot}
use Rattle.link_search.specs.Answers.{NetAnswer, Wanted}

-- what holds at one bit, and at every other
pub spot-cases : (P : ℕ → ℕ → Type 0) (i p : ℕ) → P i p → ((j q : ℕ) → (j ≡ i → q ≡ p → ⊥) → P j q) → (j q : ℕ) → P j q
spot-cases P i p here else j q = go (eqb j i) refl (eqb q p) refl
  where
    go : (a : Bool) → eqb j i ≡ a → (b : Bool) → eqb q p ≡ b → P j q
    go true e true f = subst (λ (x : ℕ). P x q) (sym (eqb-true j i e)) (subst (P i) (sym (eqb-true q p f)) here)
    go true e false f = else j q (λ x y. eqb-false q p f y)
    go false e b f = else j q (λ x y. eqb-false j i e x)

-- the rows zs are the rows ys but for the bit p of row i, which is b
pub record Bit (ys : List ℕ) (i p : ℕ) (b : Bool) (zs : List ℕ) : Type 0 where
  pub here : net_of zs i p ≡ b
  pub else : (j q : ℕ) → (j ≡ i → q ≡ p → ⊥) → net_of zs j q ≡ net_of ys j q

-- a row with one bit changed
set_else : (ys : List ℕ) (i p y : ℕ) → i < length ys → ((q : ℕ) → (q ≡ p → ⊥) → bit q y ≡ bit q (get_or ys i 0))
    → (j q : ℕ) → (j ≡ i → q ≡ p → ⊥) → net_of (set ys i y) j q ≡ net_of ys j q
set_else ys i p y h f j q n = go (eqb j i) refl
  where
    go : (b : Bool) → eqb j i ≡ b → net_of (set ys i y) j q ≡ net_of ys j q
    go true e =
        let d : j ≡ i = eqb-true j i e in
        ap (λ (x : ℕ). net_of (set ys i y) x q) d ∙ ap (bit q) (get_or-set_same ys i y 0 h) ∙ f q (n d) ∙ ap (λ (x : ℕ). net_of ys x q) (sym d)
    go false e = ap (bit q) (get_or-set_other ys i j y 0 (eqb-false j i e))

module _ (ys : List ℕ) (i p y : ℕ) (h : i < length ys) where
  pub bit-off : ((q : ℕ) → bit q y ≡ bit q (get_or ys i 0) && not (eqb q p)) → Bit ys i p false (set ys i y)
  bit-off f = record {
    here = ap (bit p) (get_or-set_same ys i y 0 h) ∙ f p ∙ ap (λ (b : Bool). net_of ys i p && not b) (eq-eqb p p refl) ∙ and-false (net_of ys i p);
    else = set_else ys i p y h (λ q n. f q ∙ ap (λ (b : Bool). net_of ys i q && not b) (ne_eqb q p n) ∙ and-true (net_of ys i q));
  }

  pub bit-on : ((q : ℕ) → bit q y ≡ bit q (get_or ys i 0) || eqb q p) → Bit ys i p true (set ys i y)
  bit-on f = record {
    here = ap (bit p) (get_or-set_same ys i y 0 h) ∙ f p ∙ ap (λ (b : Bool). net_of ys i p || b) (eq-eqb p p refl) ∙ or-true (net_of ys i p);
    else = set_else ys i p y h (λ q n. f q ∙ ap (λ (b : Bool). net_of ys i q || b) (ne_eqb q p n) ∙ or-false (net_of ys i q));
  }

-- an element put back
pub put_back : (ys : List ℕ) (i y z : ℕ) → z ≡ get_or ys i 0 → set (set ys i y) i z ≡ ys
put_back ys i y z e = set-set ys i y z ∙ ap (set ys i) e ∙ set-get_or ys i 0

module _ (must may : List ℕ) (i p : ℕ) (spot : net_of may i p ≡ true) (must' may' : List ℕ) (off : Bit may i p false may') where
  -- a net between the narrower bounds is between the wider ones
  pub widen : (b : Bool) → (net_of must i p ≡ true → b ≡ true) → Bit must i p b must' → (w : Net) → Between must' may' w → Between must may w
  widen b up c w h = record {
    least = spot-cases (λ j q. j < 256 → q < 8 → net_of must j q ≡ true → w j q ≡ true) i p
        (λ l m e. h.least i p l m (c.here ∙ up e)) (λ j q n l m e. h.least j q l m (c.else j q n ∙ e));
    most = spot-cases (λ j q. j < 256 → q < 8 → w j q ≡ true → net_of must j q ≡ false → net_of may j q ≡ true) i p
        (λ l m e f. spot) (λ j q n l m e f. sym (off.else j q n) ∙ h.most j q l m e (c.else j q n ∙ f));
  }

  -- and a net that agrees at the bit goes into the narrower ones
  pub narrow : (b : Bool) → (w : Net) → (b ≡ true → w i p ≡ true) → (w i p ≡ true → b ≡ true) → Bit must i p b must' → Between must may w → Between must' may' w
  narrow b w to from c h = record {
    least = spot-cases (λ j q. j < 256 → q < 8 → net_of must' j q ≡ true → w j q ≡ true) i p
        (λ l m e. to (sym c.here ∙ e)) (λ j q n l m e. h.least j q l m (sym (c.else j q n) ∙ e));
    most = spot-cases (λ j q. j < 256 → q < 8 → w j q ≡ true → net_of must' j q ≡ false → net_of may' j q ≡ true) i p
        (λ l m e f. absurd (true-false (from e) (sym c.here ∙ f))) (λ j q n l m e f. off.else j q n ∙ h.most j q l m e (sym (c.else j q n) ∙ f));
  }

-- one bit less is open
pub fewer : (may : List ℕ) (i p : ℕ) (may' : List ℕ) → i < 256 → p < 8 → net_of may i p ≡ true → Bit may i p false may' → open_bits may' < open_bits may
unfolding open_bits
fewer may i p may' hi hp spot off =
    let d : (i * 8 + p) / 8 ≡ i = omega arith in
    let m : (i * 8 + p) % 8 ≡ p = omega arith in
    tally-less (λ k. net_of may' (k / 8) (k % 8)) (λ k. net_of may (k / 8) (k % 8)) 2048 (i * 8 + p)
    (λ k l. spot-cases (λ j q. net_of may' j q ≡ true → net_of may j q ≡ true) i p (λ e. spot) (λ j q n e. sym (off.else j q n) ∙ e) (k / 8) (k % 8))
    (omega arith) (rw (d, m) off.here) (rw (d, m) spot)

module _ (C : Net → Type 0) (must may : List ℕ) where
  -- nothing is missing: the net of what must stand
  pub answer-fine : C (net_of must) → NetAnswer C must may must may true
  answer-fine h = record {
    between = λ e. record { least = λ i p a b t. t; most = λ i p a b t f. absurd (true-false t f) };
    sound = λ e. h;
    kept = λ e. refl;
    kept_may = λ e. refl;
    complete = λ e. absurd (true≢false e);
  }

  pub answer-dead : ((w : Net) → Between must may w → C w → ⊥) → NetAnswer C must may must may false
  answer-dead h = record {
    between = λ e. absurd (false≢true e);
    sound = λ e. absurd (false≢true e);
    kept = λ e. refl;
    kept_may = λ e. refl;
    complete = λ e. h;
  }

-- the bit p of row i, which may stand, is tried as a link, its row then y; the row of what may stand is m in both tries
pub record Try (must may : List ℕ) (i p y m : ℕ) : Type 0 where
  pub below : i < 256
  pub target : p < 8
  pub spot : net_of may i p ≡ true
  pub long : length must ≡ 256
  pub long_may : length may ≡ 256
  pub on : (q : ℕ) → bit q y ≡ bit q (get_or must i 0) || eqb q p
  pub off : (q : ℕ) → bit q m ≡ bit q (get_or may i 0) && not (eqb q p)

-- so it is where the bit was wanted
pub tried : {y m : ℕ} (must may : List ℕ) (s : Spot) → Wanted may s → length must ≡ 256 → length may ≡ 256
    → ((q : ℕ) → bit q y ≡ bit q (get_or must s.row 0) || eqb q s.target) → ((q : ℕ) → bit q m ≡ bit q (get_or may s.row 0) && not (eqb q s.target)) → Try must may s.row s.target y m
tried must may s w long long_may on off = record { below = w.below; target = w.inside; spot = w.spot; long = long; long_may = long_may; on = on; off = off }

module _ (C : Net → Type 0) {must may : List ℕ} {i p y m : ℕ} (r : Try must may i p y m) where
  linked : Bit must i p true (set must i y)
  linked = bit-on must i p y (omega (arith, r.below, r.long)) r.on

  decided : Bit may i p false (set may i m)
  decided = bit-off may i p m (omega (arith, r.below, r.long_may)) r.off

  pub try-falls : open_bits (set may i m) < open_bits may
  try-falls = fewer may i p (set may i m) r.below r.target r.spot decided

  pub try-long : length (set must i y) ≡ 256
  try-long = length-set must i y ∙ r.long

  pub try-long-may : length (set may i m) ≡ 256
  try-long-may = length-set may i m ∙ r.long_may

  -- the first try found a net
  pub answer-first : {u v : List ℕ} {f : Bool} → NetAnswer C (set must i y) (set may i m) u v f → f ≡ true → NetAnswer C must may u v true
  answer-first {u} {v} {f} a h = record {
    between = λ e. widen must may i p r.spot (set must i y) (set may i m) decided true (λ x. refl) linked (net_of u) (a.between h);
    sound = λ e. a.sound h;
    kept = λ e. absurd (true≢false e);
    kept_may = λ e. absurd (true≢false e);
    complete = λ e. absurd (true≢false e);
  }

  -- it found none, and left u and v
  module _ {u v : List ℕ} {f : Bool} (a : NetAnswer C (set must i y) (set may i m) u v f) (none : f ≡ false) where
    pub back-must : set u i (get_or must i 0) ≡ must
    back-must = ap (λ (l : List ℕ). set l i (get_or must i 0)) (a.kept none) ∙ put_back must i y (get_or must i 0) refl

    pub again-falls : open_bits v < open_bits may
    again-falls = subst (λ (l : List ℕ). open_bits l < open_bits may) (sym (a.kept_may none)) try-falls

    pub again-long : length (set u i (get_or must i 0)) ≡ 256
    again-long = ap length back-must ∙ r.long

    pub again-long-may : length v ≡ 256
    again-long-may = ap length (a.kept_may none) ∙ try-long-may

    module _ {s t : List ℕ} {g : Bool} (b : NetAnswer C (set u i (get_or must i 0)) v s t g) where
      second : NetAnswer C must (set may i m) s t g
      second = subst (λ (l : List ℕ). NetAnswer C must l s t g) (a.kept_may none) (subst (λ (l : List ℕ). NetAnswer C l v s t g) back-must b)

      pub answer-second : g ≡ true → NetAnswer C must may s t true
      answer-second h = record {
        between = λ e. widen must may i p r.spot must (set may i m) decided (net_of must i p) (λ x. x) (record { here = refl; else = λ j q n. refl }) (net_of s) (second.between h);
        sound = λ e. second.sound h;
        kept = λ e. absurd (true≢false e);
        kept_may = λ e. absurd (true≢false e);
        complete = λ e. absurd (true≢false e);
      }

      pub answer-none : g ≡ false → NetAnswer C must may s (set t i (get_or may i 0)) false
      answer-none h = record {
        between = λ e. absurd (false≢true e);
        sound = λ e. absurd (false≢true e);
        kept = λ e. second.kept h;
        kept_may = λ e. ap (λ (l : List ℕ). set l i (get_or may i 0)) (second.kept_may h) ∙ put_back may i m (get_or may i 0) refl;
        complete = λ e w bw cw. go w bw cw (w i p) refl;
      }
        where
          go : (w : Net) → Between must may w → C w → (x : Bool) → w i p ≡ x → ⊥
          go w bw cw true q = a.complete none w (narrow must may i p r.spot (set must i y) (set may i m) decided true w (λ _. q) (λ _. refl) linked bw) cw
          go w bw cw false q = second.complete h w (narrow must may i p r.spot must (set may i m) decided (net_of must i p) w (bw.least i p r.below r.target) (λ z. absurd (true-false z q))
              (record { here = refl; else = λ j q n. refl }) bw) cw
