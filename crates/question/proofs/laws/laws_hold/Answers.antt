use Rattle.question.proofs.Numbers.{start_numbers, path_numbers, inclusion_numbers}
use Rattle.question.proofs.Paths.{path_asks, path_tells}
use Rattle.question.proofs.Propriety.{start_proper, path_proper, inclusion_proper}
use Rattle.question.proofs.Sides.{path_sides}
use Rattle.question.proofs.States.{start_asks, start_tells, inclusion_asks, inclusion_tells}
use Rattle.question.proofs.laws.laws_hold.Goals as goal

pub returns : goal.returns
returns c =
    record {
      start_asks_for_a_bad_state = start_asks;
      start_answer_tells_the_state = start_tells;
      path_asks_for_a_bad_state_ahead = path_asks;
      path_answer_tells_the_frames = path_tells;
      inclusion_asks_for_a_state_outside = inclusion_asks;
      inclusion_answer_tells_the_state = inclusion_tells;
      start_clauses_are_proper = start_proper;
      path_clauses_are_proper = path_proper;
      inclusion_clauses_are_proper = inclusion_proper;
      path_parts_have_their_variables = path_sides;
      start_clauses_have_numbers = start_numbers;
      path_clauses_have_numbers = path_numbers;
      inclusion_clauses_have_numbers = inclusion_numbers;
    }
