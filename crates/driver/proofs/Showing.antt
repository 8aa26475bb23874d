-- The frames that were written into a run list are the frames that its text shows. Assumes nothing.
use Rattle.std.proofs.Common.{◌≡◌, ℕ, suc, List, [], ◌∷◌, ◌++◌, map, length, get_or, drop, codes, sym, ap, ◌∙◌, append_assoc, arith}
use Rattle.std.proofs.lemmas.List.FromFn.{fill_by_all}
use Rattle.std.proofs.lemmas.List.{append-nil, drop_at, get_or_append_left, length-map}
use Rattle.lists.specs.Counted.{counted}
use Rattle.sheet.specs.Sheets.{Sheet, input_count, latch_count}
use Rattle.machine.specs.Runs.{Frame}
use Rattle.checker.specs.Reports.{bit_number, frame_written, run_written, numbers_from}
use Rattle.checker.specs.declared.report.Report.{Report}
use Rattle.driver.specs.Texts.{line_text, report_text, frame_text, frames_text, run_text, ended_text, frame_lines, run_lines, ShowsRun}

front : (bs rest : List ℕ) (n : ℕ) → length bs ≡ n → numbers_from (bs ++ rest) 0 n ≡ bs
front bs rest n long = sym (fill_by_all (λ j. get_or (bs ++ rest) j 0) bs n 0 long (λ k h. sym (get_or_append_left bs rest 0 k (omega arith))))

module _ {s : Sheet} where
  abbrev latched : Frame s → List ℕ
  latched f = map bit_number f.state.bits

  abbrev given : Frame s → List ℕ
  given f = map bit_number f.inputs.bits

  latched_long : (f : Frame s) → length (latched f) ≡ s.latches
  latched_long f = length-map f.state.bits bit_number ∙ f.state.sized

  given_long : (f : Frame s) → length (given f) ≡ s.inputs
  given_long f = length-map f.inputs.bits bit_number ∙ f.inputs.sized

  -- behind the latches lie the inputs
  past_latches : (f : Frame s) (rest : List ℕ) → drop s.latches (frame_written f ++ rest) ≡ given f ++ rest
  past_latches f rest = ap (drop s.latches) (append_assoc (latched f) (given f) rest) ∙ drop_at (latched f) (given f ++ rest) s.latches (latched_long f)

  past_frame : (f : Frame s) (rest : List ℕ) → drop s.inputs (drop s.latches (frame_written f ++ rest)) ≡ rest
  past_frame f rest = ap (drop s.inputs) (past_latches f rest) ∙ drop_at (given f) rest s.inputs (given_long f)

  frame_shown : (f : Frame s) (rest : List ℕ) → frame_text s.latches s.inputs (frame_written f ++ rest) ≡ frame_lines f
  frame_shown f rest =
      let states : numbers_from (frame_written f ++ rest) 0 s.latches ≡ latched f =
      ap (λ (ys : List ℕ). numbers_from ys 0 s.latches) (append_assoc (latched f) (given f) rest) ∙ front (latched f) (given f ++ rest) s.latches (latched_long f) in
      let inputs : numbers_from (drop s.latches (frame_written f ++ rest)) 0 s.inputs ≡ given f =
      ap (λ (ys : List ℕ). numbers_from ys 0 s.inputs) (past_latches f rest) ∙ front (given f) rest s.inputs (given_long f) in
      (λ i. line_text (codes "s") (states i) ++ line_text (codes "i") (inputs i))

  frames_shown : (f : Frame s) (fs : List (Frame s)) (rest : List ℕ) → frames_text (suc (length fs)) s.latches s.inputs (run_written f fs ++ rest) ≡ run_lines f fs
  frames_shown f [] rest = append-nil (frame_text s.latches s.inputs (frame_written f ++ rest)) ∙ frame_shown f rest
  frames_shown f (g ∷ gs) rest =
      let more : List ℕ = run_written g gs ++ rest in
      ap (frames_text (suc (suc (length gs))) s.latches s.inputs) (append_assoc (frame_written f) (run_written g gs) rest)
      ∙ (λ i. frame_shown f more i ++ frames_text (suc (length gs)) s.latches s.inputs (past_frame f more i))
      ∙ ap (λ (ys : List ℕ). frame_lines f ++ ys) (frames_shown g gs rest)

pub shows_run : (r : Report) (l run text : List ℕ) → text ≡ ended_text r l run → ShowsRun r l run text
shows_run r l run text is f fs rest is-run written =
    is ∙ (λ i. report_text r ++ run_text (is-run i) (latch_count (counted l)) (input_count (counted l)) (written i)) ∙ ap (λ (ys : List ℕ). report_text r ++ ys) (frames_shown f fs rest)
