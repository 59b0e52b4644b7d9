-- Lists with the same members.
use mathlib.Core.Path.{◌≡◌}
use mathlib.Core.Logic.{◌⊎◌, inl, inr}
use mathlib.Core.List.Memᴰ
use mathlib.Core.List.{List, ◌∷◌, ◌++◌}
use Rattle.model.specs.Lists.{◌∈◌}
use Rattle.model.proofs.Members.{in-front, in-back}

-- lists with the same members
pub record Alike {A : Type 0} (l m : List A) : Type 0 where
  pub to : (x : A) → x ∈ l → x ∈ m
  pub from : (x : A) → x ∈ m → x ∈ l

module _ {A : Type 0} where
  -- a list and itself
  pub alike_refl : (l : List A) → Alike l l
  alike_refl l = record { to = λ x m. m; from = λ x m. m }

  -- by way of another list
  pub alike-trans : {l m n : List A} → Alike l m → Alike m n → Alike l n
  alike-trans f g = record { to = λ x k. g.to x (f.to x k); from = λ x k. f.from x (g.from x k) }

  -- the cases of a member of a list in three parts, the first of them one member
  pub parts-cases : (y : A) (l m : List A) {x : A} {X : Type 0} → x ∈ y ∷ (l ++ m) → (x ≡ y → X) → (x ∈ l → X) → (x ∈ m → X) → X
  parts-cases y l m {x} {X} k f g h = first (Memᴰ.cases_cons k)
    where
      second : (x ∈ l) ⊎ (x ∈ m) → X
      second (inl j) = g j
      second (inr j) = h j

      first : (x ≡ y) ⊎ (x ∈ l ++ m) → X
      first (inl e) = f e
      first (inr j) = second (Memᴰ.append_cases l j)

  -- part by part
  pub within : (y : A) (l l' m m' : List A) → ((x : A) → x ∈ l → x ∈ l') → ((x : A) → x ∈ m → x ∈ m') → (x : A) → x ∈ y ∷ (l ++ m) → x ∈ y ∷ (l' ++ m')
  within y l l' m m' f g x k =
      parts-cases y l m k
      (λ h. Memᴰ.head h)
      (λ h. Memᴰ.tail (in-front l' m' (f x h)))
      (λ h. Memᴰ.tail (in-back l' m' (g x h)))

  -- both ways
  pub alike-parts : (y : A) {l l' m m' : List A} → Alike l l' → Alike m m' → Alike (y ∷ (l ++ m)) (y ∷ (l' ++ m'))
  alike-parts y {l} {l'} {m} {m'} f g = record { to = within y l l' m m' f.to g.to; from = within y l' l m' m f.from g.from }

  -- two parts in the other order
  pub swap : (y z : A) (l m n : List A) (x : A) → x ∈ y ∷ (l ++ (z ∷ (m ++ n))) → x ∈ z ∷ (m ++ (y ∷ (l ++ n)))
  swap y z l m n x k =
      parts-cases y l (z ∷ (m ++ n)) k
      (λ h. Memᴰ.tail (in-back m (y ∷ (l ++ n)) (Memᴰ.head h)))
      (λ h. Memᴰ.tail (in-back m (y ∷ (l ++ n)) (Memᴰ.tail (in-front l n h))))
      (λ j. parts-cases z m n j
      (λ h. Memᴰ.head h)
      (λ h. Memᴰ.tail (in-front m (y ∷ (l ++ n)) h))
      (λ h. Memᴰ.tail (in-back m (y ∷ (l ++ n)) (Memᴰ.tail (in-back l n h)))))

  -- both ways
  pub alike-swap : (y z : A) (l m n : List A) → Alike (y ∷ (l ++ (z ∷ (m ++ n)))) (z ∷ (m ++ (y ∷ (l ++ n))))
  alike-swap y z l m n = record { to = swap y z l m n; from = swap z y m l n }
