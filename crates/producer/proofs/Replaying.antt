-- A call of a recording, from what is done with the places that count. Assumes nothing.
use Rattle.std.proofs.Common.{◌≡◌, ℕ, ◌+◌, ◌^◌, ◌<◌, ◌≤◌, min, List, ◌++◌, length, get_or, take, drop, sym, ap, ◌∙◌}
use Rattle.std.proofs.lemmas.List.{take-append-drop}
use Rattle.std.proofs.lemmas.Bool.{cond-true, cond-false, lt-ltb, le-ltb}
use Rattle.lists.specs.Counted.{counted}
use Rattle.lists.proofs.Taken.{take_min, drop_min}
use Rattle.question.specs.Questions.{variable_count}
use Rattle.producer.specs.Recording.{recited, replay}
use Rattle.producer.specs.declared.interface.Reply.{Reply}
use Rattle.producer.specs.declared.interface.Reply.TheVariants.{TooLong}

module _ (tape q a w : List ℕ) (i : ℕ) (t : List ℕ) (same : t ≡ counted tape) where
  -- the list of a call, from the reply, what counts of the answer list, and the position
  abbrev whole : Reply × List ℕ × ℕ → Reply × List ℕ × List ℕ × List ℕ × ℕ
  whole k = (k.0, k.1 ++ drop (2 ^ 28) a, w, tape, k.2)

  pub used_up : get_or t 0 0 ≤ i → (TooLong, a, w, tape, i) ≡ replay tape i q a w
  used_up past =
      let limit : get_or (counted tape) 0 0 ≤ i = rw same at past in
      ap (λ v. (TooLong, v, w, tape, i)) (sym (take-append-drop (2 ^ 28) a)) ∙ sym (ap whole (cond-false _ _ _ (le-ltb i (get_or (counted tape) 0 0) limit)))

  module _ (v : ℕ) (is : v ≡ variable_count (counted q)) (room : ℕ) (cut : room ≡ min (length a) (2 ^ 28)) where
    pub one_more : i < get_or t 0 0 → (r : Reply) (after : List ℕ) → (r, after) ≡ recited t i v (take room a) →
        (r, after ++ drop room a, w, tape, i + 1) ≡ replay tape i q a w
    one_more less r after told =
        let limit : i < get_or (counted tape) 0 0 = rw same at less in
        let all : (r, after) ≡ recited (counted tape) i (variable_count (counted q)) (counted a) =
        told ∙ ap (λ u. recited u i v (take room a)) same ∙ ap (λ u. recited (counted tape) i u (take room a)) is
        ∙ ap (recited (counted tape) i (variable_count (counted q))) (take_min a (2 ^ 28) room cut) in
        ap (λ u. (r, after ++ u, w, tape, i + 1)) (drop_min a (2 ^ 28) room cut)
        ∙ ap (λ k. whole (k.0, k.1, i + 1)) all
        ∙ sym (ap whole (cond-true _ _ _ (lt-ltb i (get_or (counted tape) 0 0) limit)))
