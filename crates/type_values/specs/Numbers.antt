-- The same by numbers of the arrays, before anything is said of a diagram.
-- Assumes nothing.
use Rattle.std.specs.Prelude.{◌%◌, ◌*◌, ◌+◌, ◌-◌, ◌/◌, ℕ, Bool, cond, not, true, List, eqb, ltb, get_or, length}
use Rattle.laws.specs.Bounded.{all, any}
use Rattle.laws.specs.Connective.{both, either}
use Rattle.fields.specs.Slot.{constant_name, known_in, slot_name}
use Rattle.files.specs.Name.{Name, same_name}

-- ---- constants

-- one of the first `size` constants of value type v has the name w
unfoldable pub constant_in : List ℕ → ℕ → ℕ → Name → Bool
constant_in constants v size w = any (λ i. same_name (slot_name constants (v * 8 + i)) w) size

-- a value with this constant belongs to value type v, one of n, if they have one name
unfoldable pub shared_in : List ℕ → List ℕ → ℕ → ℕ → Name → Bool
shared_in sizes constants n v w =
    both (ltb v n) (either (constant_in constants v (get_or sizes v 0) w) (both (eqb (get_or sizes v 0) 0) (eqb (length w) 0)))

-- constant c of value type v does not belong to value type j of the others
unfoldable pub lacking_in : List ℕ → ℕ → List ℕ → List ℕ → ℕ → ℕ → ℕ → ℕ → Bool
lacking_in olds size sizes constants n j v c = both (known_in size c) (not (shared_in sizes constants n j (constant_name olds size (v * 8 + c))))

-- ---- slots

-- what is due by type t in slot s, one of n; past them nothing
unfoldable pub due_by : List ℕ → ℕ → ℕ → ℕ → ℕ
due_by dues t n s = cond (ltb s n) (get_or dues (t * 32 + s) 0) 0

-- e was asked for, and f is
unfoldable pub kept_in : List ℕ → List ℕ → ℕ → ℕ → Bool
kept_in types firsts e f =
    cond (eqb e 0) true
    (both (not (eqb f 0)) (either (eqb e 255) (both (eqb f (1 + get_or types (e - 1) 0)) (eqb (get_or firsts (e - 1) 0) 8))))

-- `slots` has for each slot of one the slot of the same name of the other, which has n
unfoldable pub slot_kept_in : List ℕ → List ℕ → List ℕ → List ℕ → List ℕ → ℕ → ℕ → ℕ → ℕ → Bool
slot_kept_in olds news slots types firsts t u n s = kept_in types firsts (get_or olds (t * 32 + s) 0) (due_by news u n (get_or slots s 0))

unfoldable pub slot_asked_in : List ℕ → List ℕ → List ℕ → ℕ → ℕ → ℕ → ℕ → Bool
slot_asked_in olds news slots t u n s = either (eqb (get_or news (u * 32 + s) 0) 0) (not (eqb (due_by olds t n (get_or slots s 0)) 0))

-- ---- types

-- type t, which is `index` t of `count` types, is a class or singleton class by its kind, and each slot is kept
unfoldable pub good_in : List ℕ → ℕ → List ℕ → List ℕ → List ℕ → List ℕ → List ℕ → List ℕ → List ℕ → ℕ → ℕ → ℕ → Bool
good_in kinds count index olds news slots back types firsts m n t =
    let u = get_or index t 0 in
    both (ltb u count)
    (both (either (eqb (get_or kinds u 0) 0) (eqb (get_or kinds u 0) 3))
    (both (all (slot_kept_in olds news slots types firsts t u n) m) (all (slot_asked_in olds news back t u m) n)))

-- ---- values

-- where e is asked for: one more than the code of a value of value type e - 1
unfoldable pub chosen_in : List ℕ → ℕ → ℕ
chosen_in firsts e =
    cond (both (ltb 0 e) (ltb e 13)) (1 + ((e - 1) * 8 + cond (ltb (get_or firsts (e - 1) 0) 8) (get_or firsts (e - 1) 0) 0)) 0

-- of object x / 32 in slot x % 32
unfoldable pub value_at_in : List ℕ → List ℕ → List ℕ → ℕ → ℕ → ℕ
value_at_in dues firsts types n x = cond (ltb (x / 32) n) (chosen_in firsts (get_or dues (get_or types (x / 32) 0 * 32 + x % 32) 0)) 0
