-- Growth to exactly n objects: below n one more is always wanted, and at n the search for links decides.
-- Assumes nothing.
use Prim.Native.Nat.{◌<◌, ◌≤◌, ℕ}
use mathlib.Core.Bool.{Bool, false, true}
use mathlib.Core.List.{List}
use mathlib.Core.Logic.{⊎_elim}
use mathlib.Core.Path.{◌≡◌, refl, subst, sym}
use native.Mathlib.Omega.{arith}
use lib.Dec.{ltb}
use borrow.Author.Tests.{lt-ltb}
use Rattle.laws.proofs.ConnectiveLaws.{known}
use Rattle.growing.specs.World.{World}
use Rattle.growing.specs.Growth.{Demanded, Ended, Grown, Nowhere, Tried}
use Rattle.growing.proofs.GrowthLaws.{grown-end, grown-none}

module _ (S : World → Type 0) (kinds : List ℕ) (k forb n : ℕ) where
  -- all n objects are given
  pub grown-full : (ok : Bool) (m : World) → k ≡ n → Ended S kinds n false ok m → Grown S kinds k forb n ok m
  grown-full ok m full a = subst (λ (i : ℕ). Grown S kinds i forb n ok m) (sym full) (⊎_elim found none (known ok))
    where
      found : ok ≡ true → Grown S kinds n forb n ok m
      found e = grown-end S kinds n forb n false ok m (omega arith) a e

      none : ok ≡ false → Grown S kinds n forb n ok m
      none e = grown-none S kinds n forb n ok m e (λ w x s. a.complete e refl w (omega (arith, x.few, x.many)) x.kept s)

  -- all types were tried for one more object
  pub nowhere-tried : (types : ℕ) (dead : Bool) (g t f : ℕ) → k < n → types ≤ t → Demanded S types kinds k forb n dead (ltb k n) g
      → Tried S types kinds k forb n g t f → Nowhere S kinds k forb n
  nowhere-tried types dead g t f room all d r w x s =
      let v = d.extra w x s (d.beyond (lt-ltb k n room) w x s) in
      r.none w x s v.at v.past v.below (omega (arith, v.small)) v.typed
