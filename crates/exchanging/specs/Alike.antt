-- Sites that answer alike for their objects. What a site answers for a number that is no object's does not matter where its
-- values and links are those of its objects.
-- Assumes nothing.
use Rattle.std.specs.Prelude.{◌<◌, ℕ, Bool, ◌≡◌}
use Rattle.files.specs.Name.{Name}
use Rattle.files.specs.Record.{Link, Value}
use Rattle.rules.specs.Site.{Site}

-- as many objects, the same types, values and links of each, and the same values and links to test
pub record Alike (x y : Site) : Type 0 where
  pub count : x.count ≡ y.count
  pub typed : (o : ℕ) (w : Name) → o < x.count → x.typed o w ≡ y.typed o w
  pub valued : (o : ℕ) (w : Name) → o < x.count → x.valued o w ≡ y.valued o w
  pub linked : (o : ℕ) (w : Name) (p : ℕ) → o < x.count → p < x.count → x.linked o w p ≡ y.linked o w p
  pub each_value : (test : Value → Bool) → x.each_value test ≡ y.each_value test
  pub each_link : (test : Link → Bool) → x.each_link test ≡ y.each_link test

-- each value is of an object, each link from an object to an object: tests that agree on such give the same
pub record Regular (x : Site) : Type 0 where
  pub values : (p q : Value → Bool) → ((v : Value) → v.object < x.count → p v ≡ q v) → x.each_value p ≡ x.each_value q
  pub links : (p q : Link → Bool) → ((k : Link) → k.from < x.count → k.to < x.count → p k ≡ q k) → x.each_link p ≡ x.each_link q
