-- Gates that run on the front of a list of values. Assumes nothing.
use Rattle.std.proofs.Common.{◌≡◌, ℕ, ◌<◌, min, List, ◌++◌, length, get_or, take, drop, ap, ◌∙◌}
use Rattle.lists.proofs.Taken.{take_min, drop_min, take_refronted, get_d_refronted}
use Rattle.signal.specs.Circuit.{Ops, gates_of}
use Rattle.signal.proofs.Fixed.{length_gates, gates_keep}

module _ {S : Type 0} (o : Ops S) (n first : ℕ) (pairs : List ℕ) (values : List S) where
  abbrev run : List S
  run = gates_of o pairs first (take n values)

  -- n places of the values, or all if there are fewer, are handed to the gates
  pub cut_run : (room : ℕ) (given : List ℕ) (after : List S) → room ≡ min (length values) n → given ≡ pairs →
      after ≡ gates_of o given first (take room values) → after ++ drop room values ≡ run ++ drop n values
  cut_run room given after is same ran =
      let gates : after ≡ run =
      ran ∙ ap (λ ps. gates_of o ps first (take room values)) same ∙ ap (λ vs. gates_of o pairs first vs) (take_min values n room is) in
      ap (λ vs. vs ++ drop room values) gates ∙ ap (λ vs. run ++ vs) (drop_min values n room is)

  pub cut_front : (exit : List S) → exit ≡ run ++ drop n values → take n exit ≡ run
  cut_front exit is = ap (λ vs. take n vs) is ∙ take_refronted run values n (length_gates o pairs first (take n values))

  pub cut_keeps : (exit : List S) → exit ≡ run ++ drop n values → (k : ℕ) (d : S) → k < first → get_or exit k d ≡ get_or values k d
  cut_keeps exit is k d low =
      ap (λ vs. get_or vs k d) is
      ∙ get_d_refronted run values n k d (length_gates o pairs first (take n values)) (gates_keep o pairs first (take n values) k d low)
