-- Where a path question is cut in two. Its variables are those of frames, with one for each node of the sheet, and behind
-- the last frame those of formula gates. Assumes nothing.
use Rattle.std.specs.Prelude.{ℕ, ◌+◌, ◌-◌, ◌*◌, ◌/◌, ◌^◌, min, cond, ◌&&◌, ◌||◌, List, Some, None, Option, nat_le, nat_lt}
use Rattle.sheet.specs.Sheets.{input_count, latch_count, node_count}
use Rattle.sheet.specs.declared.literal.Literal.{Literal}
use Rattle.formula.specs.Built.{literal}
use Rattle.question.specs.Questions.{variable_count, first_count}
use Rattle.interpolant.specs.Interpolation.{Cut}
use Rattle.interpolant.specs.declared.parts.Parts.{Parts}

-- how many nodes a sheet list gives a frame; more than 32 bits can tell count as the most that they can
abbrev pub width_in : List ℕ → ℕ
width_in l = min (node_count l) (2 ^ 32 - 1)

-- a question with n formula gates, whose variables are its last
abbrev pub parts_of : List ℕ → List ℕ → ℕ → Parts
parts_of l q n =
    record {
      first = first_count q;
      width = width_in l;
      inputs = input_count l;
      latches = latch_count l;
      fresh = variable_count q - n;
      variables = variable_count q;
    }

-- the latches of frame 1 are shared; frame 0 and the formula gates are local
abbrev pub cut_by : Parts → Cut
cut_by u =
    record {
      first = u.first;
      shared = λ v. nat_le (u.width + 1 + u.inputs) v && nat_lt v (u.width + 1 + u.inputs + u.latches);
      local = λ v. nat_lt v u.width || (nat_le u.fresh v && nat_lt v u.variables);
    }

abbrev pub cut_of : List ℕ → List ℕ → ℕ → Cut
cut_of l q n = cut_by (parts_of l q n)

-- the latch's literal that a shared literal is of in frame 1
abbrev pub latch_in : Parts → ℕ → Option Literal
latch_in u x = cond ((cut_by u).shared (x / 2)) (Some (literal (x - 2 * u.width))) None
