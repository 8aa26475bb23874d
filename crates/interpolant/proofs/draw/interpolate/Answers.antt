use Rattle.std.proofs.Common.{ℕ, ◌-◌, List, ◌++◌}
use borrow.Rule.Slice.PartMut.{post_of}
use Rattle.lists.specs.Counted.{counted}
use Rattle.interpolant.proofs.Going.{interpolation_by}
use Rattle.interpolant.proofs.Meanings.{draws_formula, annotates, interpolates, interpolates_path, lies_between}
use Rattle.interpolant.proofs.Adding.{adds_gates}
use Rattle.interpolant.proofs.Counting.{needs_gates}
use Rattle.interpolant.proofs.Shortage.{says_which}
use Rattle.interpolant.proofs.Zeros.{zero_behind}
use Rattle.interpolant.proofs.draw.interpolate.Goals as goal

pub returns : goal.returns
returns c =
    let l : List ℕ = counted c.args.sheet.now in
    let q : List ℕ = counted c.args.question.now in
    let t : List ℕ = counted c.args.refutation.now in
    let f = c.args.formula.now in
    let n = c.args.gates in
    let old = c.args.line_values.now in
    let r = c.draw.result in
    let f' = c.draw.new.formula in
    let vs : List ℕ = c.draw.new.values ++ post_of 0 (c.counted_len-room.result - 0) old in
    let is = interpolation_by l q t n f old c.new.result c.new.ensures c.counted.result.now c.counted-2.result.now c.counted.ensures.value c.counted-2.ensures.value c.counted_len-room.result c.counted_len-room.ensures r f' c.draw.new.values c.draw.ensures in
    record {
      draws_each_line_in_order = is;
      says_which_list_is_short = says_which l q t f n old f' vs r is;
      line_values_are_zero_behind_the_lines = zero_behind l q t f n old f' vs r is;
      needs_at_most_a_gate_for_each_literal_and_step = needs_gates l q t f n old f' vs r is;
      adds_gates_and_leaves_the_rest = adds_gates l q t f n old f' vs r is;
      draws_a_formula_and_keeps_the_others = draws_formula l q t f n old f' vs r is;
      gives_each_line_its_partial_interpolant = annotates l q t f n old f' vs r is;
      separates_the_parts = interpolates l q t f n old f' vs r is;
      separates_the_parts_of_a_path_question = interpolates_path l q t f n old f' vs r is;
      lies_between_a_step_and_bad_states = lies_between l q t f n old f' vs r is;
    }
