-- One turn of a loop that writes a stretch of clauses or of literals. Assumes nothing.
use Rattle.std.proofs.Common.{◌≡◌, ℕ, suc, ◌+◌, ◌-◌, ◌*◌, ◌<◌, ◌≤◌, List, [], ◌∷◌, ◌++◌, sym, refl, ap, ◌∙◌, suc-mul, arith}
use Rattle.std.proofs.lemmas.Nat.{mul-le}
use Rattle.lists.specs.Stretch.{stretch}
use Rattle.question.specs.declared.page.Page.{Page}
use Rattle.question.specs.Writing.{Pen, Moved, pushed, pushes, put, puts}

pub puts_append : (xs ys : List (List ℕ)) (p : List ℕ × Pen) → puts p (xs ++ ys) ≡ puts (puts p xs) ys
puts_append [] ys p = refl
puts_append (x ∷ xs) ys p = puts_append xs ys (put p x)

-- clauses, and then others
pub two_parts : (xs ys : List (List ℕ)) (p a b : List ℕ × Pen) → a ≡ puts p xs → b ≡ puts a ys → b ≡ puts p (xs ++ ys)
two_parts xs ys p a b e f = f ∙ ap (λ q. puts q ys) e ∙ sym (puts_append xs ys p)

pub three_parts : (xs ys zs : List (List ℕ)) (p a b c : List ℕ × Pen) → a ≡ puts p xs → b ≡ puts a ys → c ≡ puts b zs →
    c ≡ puts p (xs ++ (ys ++ zs))
three_parts xs ys zs p a b c e f g = two_parts xs (ys ++ zs) p a c e (two_parts ys zs a b c f g)

pub four_parts : (ws xs ys zs : List (List ℕ)) (p a b c d : List ℕ × Pen) → a ≡ puts p ws → b ≡ puts a xs → c ≡ puts b ys → d ≡ puts c zs →
    d ≡ puts p (ws ++ (xs ++ (ys ++ zs)))
four_parts ws xs ys zs p a b c d e f g h = two_parts ws (xs ++ (ys ++ zs)) p a d e (three_parts xs ys zs a b c d f g h)

stretch_more : {X : Type 0} (f : ℕ → List X) (i n : ℕ) → i < n → stretch f i (n - i) ≡ f i ++ stretch f (i + 1) (n - (i + 1))
stretch_more f i n h = let m : n - i ≡ suc (n - (i + 1)) = omega arith in rw m

-- what is left to write makes the page a
module _ (f : ℕ → List (List ℕ)) (p a : List ℕ × Pen) (i n : ℕ) (left : puts p (stretch f i (n - i)) ≡ a) where
  pub turn : (q : List ℕ × Pen) → i < n → q ≡ puts p (f i) → puts q (stretch f (i + 1) (n - (i + 1))) ≡ a
  turn q h e =
      let rest : List (List ℕ) = stretch f (i + 1) (n - (i + 1)) in
      ap (λ x. puts x rest) e ∙ sym (puts_append (f i) rest p) ∙ sym (ap (puts p) (stretch_more f i n h)) ∙ left

-- the same of literals, one in each turn
module _ (f : ℕ → ℕ) (p a : List ℕ × Pen) (i n : ℕ) (left : pushes p (stretch (λ t. f t ∷ []) i (n - i)) ≡ a) where
  pub turn_one : (q : List ℕ × Pen) → i < n → q ≡ pushed p (f i) → pushes q (stretch (λ t. f t ∷ []) (i + 1) (n - (i + 1))) ≡ a
  turn_one q h e =
      let rest : List ℕ = stretch (λ t. f t ∷ []) (i + 1) (n - (i + 1)) in
      ap (λ x. pushes x rest) e ∙ sym (ap (pushes p) (stretch_more (λ t. f t ∷ []) i n h)) ∙ left

-- rows of c, counted from 1
pub row_more : (t c : ℕ) → 1 ≤ t → (t + 1 - 1) * c ≡ (t - 1) * c + c
row_more t c h = let e : t + 1 - 1 ≡ suc (t - 1) = omega arith in rw e (suc-mul (t - 1) c)

pub row_room : (t n c : ℕ) → 1 ≤ t → t ≤ n → (t - 1) * c + c ≤ n * c
row_room t n c h k = omega (arith, suc-mul (t - 1) c, mul-le (suc (t - 1)) c n c (omega arith) (omega arith))

-- what is written in two steps
pub moved_on : {x y z : Page} {n m a b c d : ℕ} → Moved x y n m → Moved y z a b → n + a ≡ c → m + b ≡ d → Moved x z c d
moved_on p q e f =
    record { at = omega (arith, p.at, q.at); to = omega (arith, p.to, q.to); size = q.size ∙ p.size; same_list = q.same_list ∙ p.same_list }
