-- The laws of a group. Unit, product and inverse keep to elements, and the laws speak of elements only.
use Rattle.std.specs.Prelude.{◌≡◌}

pub record Laws {G : Type 0} (element : G → Type 0) (one : G) (times : G → G → G) (inv : G → G) : Type 0 where
  pub one_in : element one
  pub times_in : (x y : G) → element x → element y → element (times x y)
  pub inv_in : (x : G) → element x → element (inv x)
  pub assoc : (x y z : G) → element x → element y → element z → times (times x y) z ≡ times x (times y z)
  pub one_left : (x : G) → element x → times one x ≡ x
  pub one_right : (x : G) → element x → times x one ≡ x
  pub inv_left : (x : G) → element x → times (inv x) x ≡ one
  pub inv_right : (x : G) → element x → times x (inv x) ≡ one
