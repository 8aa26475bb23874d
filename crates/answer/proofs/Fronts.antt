-- The checks and the clause of a step, by the clauses of its lines as they are read from the front of the working list.
-- Assumes nothing.
use Rattle.std.proofs.Common.{◌≡◌, ℕ, suc, true, List, [], ◌∷◌, ◌++◌, length, take, set, sym, refl, ap, ◌∙◌}
use lib.Seq.{sets}
use Rattle.std.proofs.lemmas.Bool.{cond-true}
use Rattle.question.specs.Questions.{span}
use Rattle.answer.specs.Joint.{joint}
use Rattle.answer.specs.Lines.{line_of}
use Rattle.answer.specs.Steps.{line_before, made_by, come_before, matched, suited}
use Rattle.answer.specs.declared.steps.Step.{Step}
use Rattle.answer.specs.declared.steps.Progress.{Progress}

module _ (q w : List ℕ) (s : Step) (at : Progress) (before : come_before q at.step s ≡ true) where
  pub suited_is : (d xs ys : List ℕ) → d ≡ take at.end w → xs ≡ line_of q (span d) s.first → ys ≡ line_of q (span d) s.second →
      matched xs ys s.pivot at.step ≡ suited q w s at
  suited_is d xs ys front one other =
      let x : xs ≡ line_before q w at.end s.first = one ∙ ap (λ v. line_of q (span v) s.first) front in
      let y : ys ≡ line_before q w at.end s.second = other ∙ ap (λ v. line_of q (span v) s.second) front in
      sym (cond-true _ _ _ before ∙ rw (x, y) refl)

sets_next : (x : ℕ) (l : List ℕ) (i : ℕ) (zs : List ℕ) → sets (x ∷ l) (suc i) zs ≡ x ∷ sets l i zs
sets_next x l i [] = refl
sets_next x l i (z ∷ zs) = sets_next x (set l i z) (suc i) zs

sets_behind : (d f zs : List ℕ) → sets (d ++ f) (length d) zs ≡ d ++ sets f 0 zs
sets_behind [] f zs = refl
sets_behind (x ∷ d) f zs = sets_next x (d ++ f) (length d) zs ∙ ap (λ l. x ∷ l) (sets_behind d f zs)

-- the clause of a step, written behind what is done
pub made_behind : (q w : List ℕ) (s : Step) (end : ℕ) (d f xs ys v : List ℕ) → w ≡ d ++ f → length d ≡ end → d ≡ take end w →
    xs ≡ line_of q (span d) s.first → ys ≡ line_of q (span d) s.second → v ≡ sets f 0 (joint xs ys s.pivot) → d ++ v ≡ sets w end (made_by q w s end)
made_behind q w s end d f xs ys v parts size front one other wrote =
    let x : xs ≡ line_before q w end s.first = one ∙ ap (λ l. line_of q (span l) s.first) front in
    let y : ys ≡ line_before q w end s.second = other ∙ ap (λ l. line_of q (span l) s.second) front in
    ap (λ l. d ++ l) wrote
    ∙ sym (sets_behind d f (joint xs ys s.pivot))
    ∙ ap (λ l. sets l (length d) (joint xs ys s.pivot)) (sym parts)
    ∙ ap (λ n. sets w n (joint xs ys s.pivot)) size
    ∙ ap (λ l. sets w end (joint l ys s.pivot)) x
    ∙ ap (λ l. sets w end (joint (line_before q w end s.first) l s.pivot)) y
