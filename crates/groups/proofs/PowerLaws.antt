-- The laws of powers, from the laws of a group; they cite no group in particular.
use Rattle.std.proofs.Common.{◌≡◌, ℕ, zero, suc, ℤ, pos, negsuc, ◌+ℤ◌, ◌-ℤ◌, ◌*ℤ◌, neg_ℤ, sym, refl, ap, ◌∙◌}
use lib.IntN.{suc_ℤ, pred_ℤ, suc-pred, +ℤ_comm, +ℤ_idr, +ℤ-suc_ℤ, +ℤ-pred_ℤ, +ℤ_invr, *ℤ-zero, *ℤ_comm, suc_ℤ-*ℤ, pred_ℤ-*ℤ}
use Rattle.groups.specs.Laws.{Laws}
use Rattle.groups.specs.Powers.{power, powerℤ, PowerLaws}

-- what holds at 0, and of the next and the one before with each, holds of every integer
pub climb : (P : ℤ → Type 0) → P (pos zero) → ((k : ℤ) → P k → P (suc_ℤ k)) → ((k : ℤ) → P k → P (pred_ℤ k)) → (k : ℤ) → P k
climb P z s p (pos zero) = z
climb P z s p (pos (suc n)) = s (pos n) (climb P z s p (pos n))
climb P z s p (negsuc zero) = p (pos zero) z
climb P z s p (negsuc (suc n)) = p (negsuc n) (climb P z s p (negsuc n))

module _ {G : Type 0} {element : G → Type 0} {one : G} {times : G → G → G} {inv : G → G} (laws : Laws element one times inv) where
  pub power_in : (x : G) → element x → (n : ℕ) → element (power one times x n)
  power_in x h zero = laws.one_in
  power_in x h (suc n) = laws.times_in _ _ (power_in x h n) h

  -- the factor may stand on either side
  pub power_front : (x : G) → element x → (n : ℕ) → times x (power one times x n) ≡ power one times x (suc n)
  power_front x h zero = laws.one_right x h ∙ sym (laws.one_left x h)
  power_front x h (suc n) =
      sym (laws.assoc _ _ _ h (power_in x h n) h) ∙ ap (λ y. times y x) (power_front x h n)

  pub back_again : (a b : G) → element a → element b → times (times a b) (inv b) ≡ a
  back_again a b h k =
      laws.assoc _ _ _ h k (laws.inv_in b k) ∙ ap (times a) (laws.inv_right b k) ∙ laws.one_right a h

  pub cancel : (a b y : G) → element a → element b → element y → times a y ≡ times b y → a ≡ b
  cancel a b y h k l e =
      sym (back_again a y h l) ∙ ap (λ z. times z (inv y)) e ∙ back_again b y k l

  pub inv_unique : (a b : G) → element a → element b → times a b ≡ one → b ≡ inv a
  inv_unique a b h k e =
      sym (laws.one_left b k) ∙ ap (λ z. times z b) (sym (laws.inv_left a h)) ∙ laws.assoc _ _ _ (laws.inv_in a h) h k
      ∙ ap (times (inv a)) e ∙ laws.one_right _ (laws.inv_in a h)

  pub powerℤ_in : (x : G) → element x → (k : ℤ) → element (powerℤ one times inv x k)
  powerℤ_in x h (pos n) = power_in x h n
  powerℤ_in x h (negsuc n) = laws.inv_in _ (power_in x h (suc n))

  pub powerℤ-suc : (x : G) → element x → (k : ℤ) → powerℤ one times inv x (suc_ℤ k) ≡ times (powerℤ one times inv x k) x
  powerℤ-suc x h (pos n) = refl
  powerℤ-suc x h (negsuc zero) =
      sym (laws.inv_left x h) ∙ ap (λ y. times (inv y) x) (sym (laws.one_left x h))
  powerℤ-suc x h (negsuc (suc n)) =
      let y = power one times x (suc n) in
      let yin : element y = power_in x h (suc n) in
      let yx : element (times y x) = laws.times_in _ _ yin h in
      cancel (inv y) (times (inv (times y x)) x) y (laws.inv_in _ yin) (laws.times_in _ _ (laws.inv_in _ yx) h) yin
      (laws.inv_left y yin ∙ sym (laws.inv_left _ yx)
      ∙ ap (times (inv (times y x))) (sym (power_front x h (suc n)))
      ∙ sym (laws.assoc _ _ _ (laws.inv_in _ yx) h yin))

  pub powerℤ_pred : (x : G) → element x → (k : ℤ) → powerℤ one times inv x (pred_ℤ k) ≡ times (powerℤ one times inv x k) (inv x)
  powerℤ_pred x h k =
      sym (back_again _ x (powerℤ_in x h (pred_ℤ k)) h)
      ∙ ap (λ z. times z (inv x)) (sym (powerℤ-suc x h (pred_ℤ k)) ∙ ap (powerℤ one times inv x) (suc-pred k))

  pub powerℤ-add : (x : G) → element x → (a b : ℤ) → powerℤ one times inv x (a +ℤ b) ≡ times (powerℤ one times inv x a) (powerℤ one times inv x b)
  powerℤ-add x h a =
      climb (λ b. powerℤ one times inv x (a +ℤ b) ≡ times (powerℤ one times inv x a) (powerℤ one times inv x b))
      (ap (powerℤ one times inv x) (+ℤ_idr a) ∙ sym (laws.one_right _ (powerℤ_in x h a)))
      (λ b e.
      ap (powerℤ one times inv x) (+ℤ-suc_ℤ a b) ∙ powerℤ-suc x h (a +ℤ b) ∙ ap (λ z. times z x) e
      ∙ laws.assoc _ _ _ (powerℤ_in x h a) (powerℤ_in x h b) h
      ∙ ap (times (powerℤ one times inv x a)) (sym (powerℤ-suc x h b)))
      (λ b e.
      ap (powerℤ one times inv x) (+ℤ-pred_ℤ a b) ∙ powerℤ_pred x h (a +ℤ b) ∙ ap (λ z. times z (inv x)) e
      ∙ laws.assoc _ _ _ (powerℤ_in x h a) (powerℤ_in x h b) (laws.inv_in x h)
      ∙ ap (times (powerℤ one times inv x a)) (sym (powerℤ_pred x h b)))

  pub powerℤ-neg : (x : G) → element x → (a : ℤ) → powerℤ one times inv x (neg_ℤ a) ≡ inv (powerℤ one times inv x a)
  powerℤ-neg x h a =
      inv_unique _ _ (powerℤ_in x h a) (powerℤ_in x h (neg_ℤ a))
      (sym (powerℤ-add x h a (neg_ℤ a)) ∙ ap (powerℤ one times inv x) (+ℤ_invr a))

  pub powerℤ-mul : (x : G) → element x → (a b : ℤ) → powerℤ one times inv x (a *ℤ b) ≡ powerℤ one times inv (powerℤ one times inv x a) b
  powerℤ-mul x h a =
      climb (λ b. powerℤ one times inv x (a *ℤ b) ≡ powerℤ one times inv (powerℤ one times inv x a) b)
      (ap (powerℤ one times inv x) (*ℤ-zero a))
      (λ b e.
      ap (powerℤ one times inv x) (*ℤ_comm a (suc_ℤ b) ∙ suc_ℤ-*ℤ b a ∙ ap (λ z. z +ℤ a) (*ℤ_comm b a))
      ∙ powerℤ-add x h (a *ℤ b) a ∙ ap (λ z. times z (powerℤ one times inv x a)) e
      ∙ sym (powerℤ-suc (powerℤ one times inv x a) (powerℤ_in x h a) b))
      (λ b e.
      ap (powerℤ one times inv x) (*ℤ_comm a (pred_ℤ b) ∙ pred_ℤ-*ℤ b a ∙ ap (λ z. z -ℤ a) (*ℤ_comm b a))
      ∙ powerℤ-add x h (a *ℤ b) (neg_ℤ a)
      ∙ ap (λ z. times z (powerℤ one times inv x (neg_ℤ a))) e
      ∙ ap (times (powerℤ one times inv (powerℤ one times inv x a) b)) (powerℤ-neg x h a)
      ∙ sym (powerℤ_pred (powerℤ one times inv x a) (powerℤ_in x h a) b))

  pub powerℤ_commute : (x : G) → element x → (a b : ℤ) → times (powerℤ one times inv x a) (powerℤ one times inv x b) ≡ times (powerℤ one times inv x b) (powerℤ one times inv x a)
  powerℤ_commute x h a b =
      sym (powerℤ-add x h a b) ∙ ap (powerℤ one times inv x) (+ℤ_comm a b) ∙ powerℤ-add x h b a

  pub power_laws : PowerLaws element one times inv
  power_laws = record {
    inside = powerℤ_in;
    of_sum = powerℤ-add;
    of_product = powerℤ-mul;
    of_negation = powerℤ-neg;
    commute = powerℤ_commute;
  }
