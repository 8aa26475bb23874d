-- Frames: copies of a sheet's nodes, one for each state of a path. A question's literal says node and frame at once.
-- Assumes nothing.
use Rattle.std.specs.Prelude.{ℕ, ◌+◌, ◌-◌, ◌*◌, ◌/◌, ◌^◌, cond, ◌&&◌, Some, None, Option, nat_le, nat_lt}
use Rattle.sheet.specs.declared.literal.Literal.{Literal}
use Rattle.formula.specs.declared.question_literal.QuestionLiteral.{QuestionLiteral}

-- the question's literal of a sheet literal x in frame t, where a frame has w nodes
abbrev pub in_frame : ℕ → ℕ → ℕ → ℕ
in_frame w t x = x + 2 * (t * w)

-- the question's literal of a formula literal x, where there are m frames: formula gates come after the last, and what is smaller
-- lies in frame 0
abbrev pub in_question : ℕ → ℕ → ℕ → ℕ
in_question w m x = cond (nat_lt x (2 * w)) x (x + 2 * ((m - 1) * w))

-- the sheet literal that x is of in frame 1, if x is of that frame
abbrev pub out_of_frame_one : ℕ → ℕ → Option Literal
out_of_frame_one w x = cond (nat_le w (x / 2) && nat_lt (x / 2) (2 * w)) (Some (record { 0 = x - 2 * w })) None

-- a literal, if it has 32 bits
abbrev pub question_literal : ℕ → Option QuestionLiteral
question_literal x = cond (nat_lt x (2 ^ 32)) (Some (record { 0 = x })) None
