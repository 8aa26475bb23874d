-- The splitting procedure on whole lists, of which the first places count. Assumes nothing.
use Rattle.std.proofs.Common.{◌≡◌, ℕ, ◌^◌, min, true, List, ◌++◌, length, take, drop, sym, ap, ◌∙◌, subst, arith, length-append, length-drop, length-take}
use Rattle.lists.specs.Counted.{counted, uncounted}
use Rattle.lists.proofs.Taken.{take_min, drop_min, take_refronted}
use Rattle.producer.specs.Procedure.{decided, answer_at, splitting, splits}
use Rattle.producer.specs.Replying.{KeepsWord, Upheld}
use Rattle.producer.specs.declared.interface.Reply.{Reply}
use Rattle.producer.proofs.Upholding.{splitting_upheld}

pub refronted_size : (xs ys : List ℕ) (n : ℕ) → length ys ≡ length (take n xs) → length (ys ++ drop n xs) ≡ length xs
refronted_size xs ys n same = omega (arith, length-append ys (drop n xs), length-drop n xs, length-take n xs)

module _ (q a w : List ℕ) where
  pub cut_splits : (q' a' w' : List ℕ) (room space : ℕ) (r : Reply) → q' ≡ counted q → room ≡ min (length a) (2 ^ 28) → space ≡ min (length w) (2 ^ 28) →
      (r, a', w') ≡ splitting q' (length (take room a)) (length (take space w)) → (r, a' ++ drop room a, w' ++ drop space w) ≡ splits q a w
  cut_splits q' a' w' room space r is cut cut' told =
      let all : (r, a', w') ≡ splitting (counted q) (length (counted a)) (length (counted w)) =
      told
      ∙ ap (λ u. splitting u (length (take room a)) (length (take space w))) is
      ∙ ap (λ u. splitting (counted q) (length u) (length (take space w))) (take_min a (2 ^ 28) room cut)
      ∙ ap (λ u. splitting (counted q) (length (counted a)) (length u)) (take_min w (2 ^ 28) space cut') in
      ap (λ u. (r, a' ++ u, w' ++ drop space w)) (drop_min a (2 ^ 28) room cut)
      ∙ ap (λ u. (r, a' ++ uncounted a, w' ++ u)) (drop_min w (2 ^ 28) space cut')
      ∙ ap (λ k. (k.0, k.1 ++ uncounted a, k.2 ++ uncounted w)) all

  -- what lies behind the places that count is as it was, so as many count as did
  front_size : (xs ys : List ℕ) (n : ℕ) → length (ys ++ drop n xs) ≡ length xs → length ys ≡ length (take n xs)
  front_size xs ys n same = omega (arith, length-append ys (drop n xs), length-drop n xs, length-take n xs)

  pub splits_upheld : (r : Reply) (a' w' : List ℕ) → (r, a', w') ≡ splits q a w → length a' ≡ length a → length w' ≡ length w → KeepsWord true q a' w' r
  splits_upheld r a' w' told long space =
      let n : ℕ = length (counted a) in
      let m : ℕ = length (counted w) in
      let d = decided (counted q) n m in
      let list : a' ≡ answer_at n d ++ uncounted a = ap (λ k. k.1) told in
      let front : counted a' ≡ answer_at n d =
      ap counted list ∙ take_refronted (answer_at n d) a (2 ^ 28) (front_size a (answer_at n d) (2 ^ 28) (sym (ap length list) ∙ long)) in
      let same : length (counted w') ≡ m = omega (arith, length-take (2 ^ 28) w', length-take (2 ^ 28) w) in
      record {
        word = λ _ is.
            subst (λ k. Upheld (counted q) (counted a') k r) (sym same)
            (subst (λ u. Upheld (counted q) u m r) (sym front) (subst (Upheld (counted q) (answer_at n d) m) (sym (ap (λ k. k.0) told)) (splitting_upheld (counted q) n m is)));
      }
