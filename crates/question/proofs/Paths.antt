-- The path question asks for a bad state after 1 to k + 1 steps. Assumes nothing.
use Rattle.std.proofs.Common.{◌≡◌, ℕ, zero, suc, ◌+◌, ◌/◌, ◌<◌, ◌≤◌, Bool, List, [], ◌∷◌, map, length, sym, refl, ap, ◌∙◌, subst, ⊎_elim, arith}
use Rattle.std.specs.List.{range_with_len}
use Rattle.std.proofs.lemmas.List.FromFn.{length-map-range_with_len}
use Rattle.std.proofs.lemmas.Bool.{cases_eq}
use Rattle.sheet.specs.Sheets.{Sheet, sheet_of}
use Rattle.signal.specs.Truth.{lit}
use Rattle.machine.specs.Runs.{Frame, Follows, BadIn, Path, last_frame, value_in}
use Rattle.machine.proofs.Steps.{stepped, stepped_follows}
use Rattle.formula.specs.Formulas.{width, Formula, Gates}
use Rattle.formula.specs.Framing.{in_frame, in_question}
use Rattle.question.specs.Clauses.{path_clauses}
use Rattle.question.specs.Meaning.{AllHold, Solvable, BadAfter, In, frame_at, FrameTells, PathTells, PathAlwaysAsks, PathAlwaysTells}
use Rattle.question.proofs.Frames.{Held, latch_bit, link_tells, frame_tells, formulas_tell, assigned, assigned_frame, assigned_link, assigned_literal, assigned_formulas, assigned_formula}
use Rattle.question.proofs.Holding.{unit_tells, unit_from, some_tells, some_from}
use Rattle.question.proofs.Parts.{FrameParts, LinkParts, path_parts, path_whole}
use Rattle.question.proofs.Variables.{Lawful, legal_lawful}

-- ---- a path, frame by frame, and on with the same inputs where it has ended
module _ (s : Sheet) where
  abbrev pub along : Frame s → List (Frame s) → ℕ → Frame s
  along f fs zero = f
  along f [] (suc t) = along (record { state = stepped s f; inputs = f.inputs }) [] t
  along f (g ∷ gs) (suc t) = along g gs t

  pub along_follows : (f : Frame s) (fs : List (Frame s)) → Path s f fs → (t : ℕ) → Follows s (along f fs t) (along f fs (suc t)).state
  along_follows f [] p zero = stepped_follows s f
  along_follows f [] p (suc t) = along_follows (record { state = stepped s f; inputs = f.inputs }) [] tt t
  along_follows f (g ∷ gs) p zero = p.0
  along_follows f (g ∷ gs) p (suc t) = along_follows g gs p.1 t

  pub along_last : (f : Frame s) (fs : List (Frame s)) → along f fs (length fs) ≡ last_frame f fs
  along_last f [] = refl
  along_last f (g ∷ gs) = along_last g gs

  -- ---- frames by number as a path
  pub run_path : (frames : ℕ → Frame s) (n i : ℕ) → ((t : ℕ) → i ≤ t → t < i + n → Follows s (frames t) (frames (t + 1)).state)
      → Path s (frames i) (map frames (range_with_len (i + 1) n))
  run_path frames zero i h = tt
  run_path frames (suc n) i h =
      (h i (omega arith) (omega arith), run_path frames n (i + 1) (λ t a b. h t (omega arith) (omega arith)))

  pub run_last : (frames : ℕ → Frame s) (n i : ℕ) → last_frame (frames i) (map frames (range_with_len (i + 1) n)) ≡ frames (i + n)
  run_last frames zero i = let e : i ≡ i + 0 = omega arith in ap frames e
  run_last frames (suc n) i = let e : i + 1 + n ≡ i + suc n = omega arith in run_last frames n (i + 1) ∙ ap frames e

module _ (s : Sheet) (lawful : Lawful s) (f : List ℕ) (n : ℕ) (gates : Gates s f n) (r : ℕ) (formula : Formula s n r) (k : ℕ) where
  abbrev w : ℕ
  w = width s

  -- ---- what a satisfying assignment tells
  pub path_told : (α : ℕ → Bool) → AllHold α (path_clauses s f n r k) → PathTells s f n r k α
  path_told α h =
      let p = path_parts (Held α) s f n r k h in
      let frames : (t : ℕ) → t ≤ k + 1 → FrameParts (Held α) s t =
      λ t a. ⊎_elim
      (λ (z : t ≡ 0). subst (FrameParts (Held α) s) (sym z) p.0.frame)
      (λ (z : t ≡ 0 → ⊥). p.1.frames t (omega arith) a)
      (cases_eq t 0) in
      let links : (t : ℕ) → t ≤ k → LinkParts (Held α) s t =
      λ t a. ⊎_elim
      (λ (z : t ≡ 0). subst (LinkParts (Held α) s) (sym z) p.0.link)
      (λ (z : t ≡ 0 → ⊥). p.1.links t (omega arith) a)
      (cases_eq t 0) in
      let literals : (t : ℕ) → t ≤ k + 1 → FrameTells s α t = λ t a. frame_tells s lawful α t (frames t a) in
      let formulas = formulas_tell s α f n (k + 2) gates p.0.frame p.0.formulas in
      let bad = some_tells α (λ t. in_frame w t s.bad) (k + 1) 1 p.1.end in
      record {
        literals = literals;
        formulas = formulas;
        in_r = sym (formulas r formula) ∙ unit_tells α (in_question w (k + 2) r) p.0.begin;
        follows = λ t a i b. sym (latch_bit s α (t + 1) i b) ∙ link_tells s α t (links t a) i b ∙ literals t (omega arith) (s.next i) (lawful.nexts i b);
        meets_bad = (bad.0, bad.1, omega (arith, bad.2), sym (literals bad.0 (omega (arith, bad.2)) s.bad lawful.bads) ∙ bad.3);
      }

  pub path_found : Solvable (path_clauses s f n r k) → BadAfter s f n r k
  path_found (α, h) =
      let t = path_told α h in
      let frames : ℕ → Frame s = frame_at s α in
      let j : ℕ = t.meets_bad.0 in (
        (frames 0).state,
        t.in_r,
        (
          j,
          t.meets_bad.1,
          t.meets_bad.2,
          record {
            inputs = (frames 0).inputs;
            later = map frames (range_with_len 1 j);
            meets = record {
              path = run_path s frames j 0 (λ i _ b. t.follows i (omega (arith, t.meets_bad.2)));
              ends_bad = subst (BadIn s) (sym (run_last s frames j 0 ∙ (let e : 0 + j ≡ j = omega arith in ap frames e))) t.meets_bad.3;
            };
            steps = length-map-range_with_len frames 1 j;
          },
        ),
      )

  -- ---- the assignment that frames give
  module _ (frames : ℕ → Frame s) (in_r : In s f n r (frames 0).state)
      (follows : (t : ℕ) → t ≤ k → Follows s (frames t) (frames (t + 1)).state)
      (j : ℕ) (some : 1 ≤ j) (few : j ≤ k + 1) (bad : BadIn s (frames j)) where
    abbrev α : ℕ → Bool
    α = assigned s lawful f n (k + 2) gates (omega arith) frames

    literal_is : (t x : ℕ) → t < k + 2 → x / 2 < w → lit α (in_frame w t x) ≡ value_in s (frames t) x
    literal_is = assigned_literal s lawful f n (k + 2) gates (omega arith) frames

    frame_is : (t : ℕ) → t < k + 2 → FrameParts (Held α) s t
    frame_is = assigned_frame s lawful f n (k + 2) gates (omega arith) frames

    link_is : (t : ℕ) → t ≤ k → LinkParts (Held α) s t
    link_is t h = assigned_link s lawful f n (k + 2) gates (omega arith) frames t (omega arith) (follows t h)

    solved : AllHold α (path_clauses s f n r k)
    solved =
        path_whole (Held α) s f n r k
        (record {
          frame = frame_is 0 (omega arith);
          link = link_is 0 (omega arith);
          formulas = assigned_formulas s lawful f n (k + 2) gates (omega arith) frames;
          begin =
              unit_from α (in_question w (k + 2) r)
              (assigned_formula s lawful f n (k + 2) gates (omega arith) frames r formula ∙ in_r);
        })
        (record {
          frames = λ t _ b. frame_is t (omega arith);
          links = λ t _ b. link_is t b;
          end =
              some_from α (λ t. in_frame w t s.bad) (k + 1) 1 j some (omega arith)
              (literal_is j s.bad (omega arith) lawful.bads ∙ bad);
        })

  pub path_solved : BadAfter s f n r k → Solvable (path_clauses s f n r k)
  path_solved (c, in_r, (j, some, few, reaches)) =
      let first : Frame s = record { state = c; inputs = reaches.inputs } in
      let frames : ℕ → Frame s = along s first reaches.later in
      let follows : (t : ℕ) → t ≤ k → Follows s (frames t) (frames (t + 1)).state =
      λ t _. let e : suc t ≡ t + 1 = omega arith in
      subst (λ (i : ℕ). Follows s (frames t) (frames i).state) e (along_follows s first reaches.later reaches.meets.path t) in
      let bad : BadIn s (frames j) =
      subst (BadIn s) (sym (ap frames (sym reaches.steps) ∙ along_last s first reaches.later)) reaches.meets.ends_bad in
      (α frames in_r follows j some few bad, solved frames in_r follows j some few bad)

pub path_tells : PathAlwaysTells
path_tells l f n r k legal gates is = path_told (sheet_of l) (legal_lawful l legal) f n gates r is k

pub path_asks : PathAlwaysAsks
path_asks l f n r k legal gates is =
    (path_found (sheet_of l) (legal_lawful l legal) f n gates r is k, path_solved (sheet_of l) (legal_lawful l legal) f n gates r is k)
