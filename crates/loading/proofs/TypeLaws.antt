-- Types in memory with one more at the end, its parents and its set.
-- Assumes nothing.
use mathlib.Core.Path.{◌≡◌, sym, ap, ◌∙◌, subst}
use mathlib.Core.Bool.{true}
use Prim.Native.Nat.{ℕ, ◌+◌, ◌*◌, ◌-◌, ◌≤◌, ◌<◌}
use native.Mathlib.Omega.{arith}
use mathlib.Core.List.{List, [], ◌∷◌, ◌++◌}
use lib.ListN.{length, get_or, take, drop, set, get_or-append}
use lib.Seq.{get_or-take, get_or-drop}
use borrow.Rule.Slice.PartMut.{put_mid}
use borrow.Author.Tests.{leb-true, eqb-true}
use Rattle.laws.specs.Lists.{listed}
use Rattle.laws.proofs.ConnectiveLaws.{both_left, both_right}
use Rattle.laws.proofs.JoinedLaws.{each_of, joined-ext, listed_more}
use Rattle.laws.proofs.ListLaws.{set-kept, set_is}
use Rattle.laws.proofs.PastedLaws.{copied, drop-pasted, pasted, take-pasted}
use Rattle.files.specs.Content.{byte, name_in, past_name}
use Rattle.files.specs.DiagramLayout.{type_laid, type_of}
use Rattle.diagrams.specs.declared.Types.{Types}
use Rattle.diagrams.specs.View.{type_in, types_of}
use Rattle.loading.specs.Stored.{NameStored, ParentsStored, SetOf, TypeFits, TypeStored}
use Rattle.loading.proofs.SlotLaws.{name-short}
use Rattle.loading.proofs.AncestorSetLaws.{sets_more}
use Rattle.files.proofs.DiagramWellFormed.{rest-length}

-- ---- parents

pub parents-stored : (d ps e : List ℕ) (t : ℕ) → t < 24 → length ps ≤ 4 → length d ≡ 96 → e ≡ take (length ps) ps ++ drop (length ps) (take (96 - t * 4) (drop (t * 4) d))
    → ParentsStored d t ps (put_mid (t * 4) (96 - t * 4) d e)
parents-stored d ps e t h few size q =
    let fits : t * 4 + length ps ≤ length d = omega arith in
    let within : t * 4 ≤ length d = omega arith in
    let is : put_mid (t * 4) (96 - t * 4) d e ≡ pasted d (t * 4) ps =
    ap (λ (n : ℕ). put_mid (t * 4) (n - t * 4) d e) (sym size) ∙ copied d ps e (t * 4) fits
    (q ∙ ap (λ (n : ℕ). take (length ps) ps ++ drop (length ps) (take (n - t * 4) (drop (t * 4) d))) (sym size)) in
    record {
      kept = λ k l.
          ap (λ (x : List ℕ). get_or x k 0) is ∙ sym (get_or-take (t * 4) (pasted d (t * 4) ps) k 0 l) ∙ ap (λ (x : List ℕ). get_or x k 0) (take-pasted d ps (t * 4) within)
          ∙ get_or-take (t * 4) d k 0 l;
      is = λ s l.
          ap (λ (x : List ℕ). get_or x (t * 4 + s) 0) is ∙ sym (get_or-drop (t * 4) (pasted d (t * 4) ps) s 0) ∙ ap (λ (x : List ℕ). get_or x s 0) (drop-pasted d ps (t * 4) within)
          ∙ get_or-append ps (drop (t * 4 + length ps) d) 0 s l;
    }

-- ---- a content on its layout

pub type-name-short : (t : Types) (c : List ℕ) {s w : List ℕ} → TypeFits t c → s ≡ drop 1 c → w ≡ name_in s → length w ≤ 16
unfolding type_laid
type-name-short t c f p q = subst (λ (x : List ℕ). length x ≤ 16) (sym (q ∙ ap name_in p)) (name-short (drop 1 c) (both_left _ _ (both_right _ _ f.laid)))

parents-size : (c : List ℕ) → type_laid c ≡ true → length (drop 1 (past_name (drop 1 c))) ≡ byte (past_name (drop 1 c)) 0
unfolding type_laid
parents-size c h = rest-length (past_name (drop 1 c)) (eqb-true (length (past_name (drop 1 c))) (1 + byte (past_name (drop 1 c)) 0) (both_right _ _ (both_right _ _ (both_right _ _ h))))

parents-most : (c : List ℕ) → type_laid c ≡ true → byte (past_name (drop 1 c)) 0 ≤ 4
unfolding type_laid
parents-most c h = leb-true (byte (past_name (drop 1 c)) 0) 4 (both_left _ _ (both_right _ _ (both_right _ _ h)))

pub parents-few : (t : Types) (c : List ℕ) {s rest ps : List ℕ} → TypeFits t c → s ≡ drop 1 c → rest ≡ past_name s → ps ≡ drop 1 rest → length ps ≤ 4
parents-few t c {ps = ps} f p q e =
    let is : length ps ≡ byte (past_name (drop 1 c)) 0 = ap length (e ∙ ap (drop 1) (q ∙ ap past_name p)) ∙ parents-size c f.laid in
    let most : byte (past_name (drop 1 c)) 0 ≤ 4 = parents-most c f.laid in
    omega arith

pub parents-known : (t : Types) (c : List ℕ) {s rest ps : List ℕ} → TypeFits t c → s ≡ drop 1 c → rest ≡ past_name s → ps ≡ drop 1 rest
    → (k : ℕ) → k < length ps → get_or ps k 0 < t.count
unfolding type_of
parents-known t c {ps = ps} f p q e =
    subst (λ (x : List ℕ). (k : ℕ) → k < length x → get_or x k 0 < t.count) (sym (e ∙ ap (drop 1) (q ∙ ap past_name p))) f.known

-- ---- a type

pub type-stored : (t r : Types) (c : List ℕ) (m : ℕ) {s rest ps w : List ℕ} {k n : ℕ} → TypeFits t c → length t.kinds ≡ 24 → length t.sizes ≡ 24 → length t.sets ≡ 24
    → s ≡ drop 1 c → rest ≡ past_name s → ps ≡ drop 1 rest → w ≡ name_in s → k ≡ get_or c 0 0 → n ≡ get_or rest 0 0 → r.count ≡ t.count + 1
    → r.kinds ≡ set t.kinds t.count k → NameStored t.names t.count w r.names → r.sizes ≡ set t.sizes t.count n
    → ParentsStored t.parents t.count ps r.parents → r.sets ≡ set t.sets t.count m → SetOf t.sets t.count ps m → TypeStored t c r
unfolding types_of type_in type_of
type-stored t r c m {ps = ps} {k = k} {n = n} fits size1 size2 size3 p q e f g h count kinds names sizes parents sets is =
    let room : t.count < 24 = fits.room in
    let list : ps ≡ drop 1 (past_name (drop 1 c)) = e ∙ ap (drop 1) (q ∙ ap past_name p) in
    let many : length ps ≡ n = ap length list ∙ parents-size c fits.laid ∙ sym (h ∙ ap (λ (x : List ℕ). get_or x 0 0) (q ∙ ap past_name p)) in
    let says : types_of r ≡ types_of t ++ (type_of c ∷ []) =
    listed_more (type_in r) (type_in t) t.count r.count (type_of c) count
    (λ i l.
    let kind : get_or r.kinds i 0 ≡ get_or t.kinds i 0 = set-kept t.kinds r.kinds t.count k i kinds l in
    let same : get_or r.sizes i 0 ≡ get_or t.sizes i 0 = set-kept t.sizes r.sizes t.count n i sizes l in
    let few : get_or t.sizes i 0 ≤ 4 = fits.few i l in
    let list : listed (λ s. get_or r.parents (i * 4 + s) 0) (get_or r.sizes i 0) ≡ listed (λ s. get_or t.parents (i * 4 + s) 0) (get_or t.sizes i 0) =
    ap (listed (λ s. get_or r.parents (i * 4 + s) 0)) same
    ∙ joined-ext _ _ (get_or t.sizes i 0) (λ s b. ap (λ (x : ℕ). x ∷ []) (parents.kept (i * 4 + s) (let j : i * 4 + s < t.count * 4 = omega arith in j))) in
    cc (names.kept i l))
    (let room1 : t.count < length t.kinds = omega arith in
    let room2 : t.count < length t.sizes = omega arith in
    let kind : get_or r.kinds t.count 0 ≡ get_or c 0 0 = set_is t.kinds r.kinds t.count k kinds room1 ∙ g in
    let size : get_or r.sizes t.count 0 ≡ n = set_is t.sizes r.sizes t.count n sizes room2 in
    let found : listed (λ s. get_or r.parents (t.count * 4 + s) 0) (get_or r.sizes t.count 0) ≡ drop 1 (past_name (drop 1 c)) =
    ap (listed (λ s. get_or r.parents (t.count * 4 + s) 0)) size
    ∙ sym (each_of (λ s. get_or r.parents (t.count * 4 + s) 0) 0 ps n many (λ i b. sym (parents.is i (let j : i < length ps = omega arith in j)))) ∙ list in
    cc (names.is, ap name_in p)) in
    let room3 : t.count < length t.sets = omega arith in
    let finished : (i : ℕ) → i < t.count → get_or r.sets i 0 ≡ get_or t.sets i 0 = λ i l. set-kept t.sets r.sets t.count m i sets l in
    let joined : SetOf t.sets t.count (type_of c).parents (get_or r.sets t.count 0) =
    subst (SetOf t.sets t.count (type_of c).parents) (sym (set_is t.sets r.sets t.count m sets room3)) (subst (λ (x : List ℕ). SetOf t.sets t.count x m) list is) in
    record {
      count = count;
      says = says;
      finished = finished;
      joined = joined;
      sets = sets_more t r (type_of c) says count fits.below fits.known fits.sets finished joined;
    }
