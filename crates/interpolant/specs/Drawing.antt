-- How the interpolant of a refutation is drawn into a formula list, with frames of w nodes and the cut u. Assumes nothing.
use Rattle.std.specs.Prelude.{◌/◌, ◌≡◌, ℕ, zero, suc, ◌+◌, ◌-◌, ◌*◌, ◌^◌, ◌<◌, ◌≤◌, min, cond, List, [], ◌∷◌, ◌++◌, length, replicate, Ok, Err, Option, Result, MatchOption, nat_le, nat_lt, slice_index, slice_set}
use Rattle.lists.specs.Counted.{counted, uncounted}
use Rattle.formula.specs.Built.{literal}
use Rattle.formula.specs.Conjunction.{Outcome, grown, short, conjoin, disjoin}
use Rattle.formula.specs.Starting.{onward}
use Rattle.question.specs.Questions.{clause_count, first_count, clause_of}
use Rattle.answer.specs.Derivations.{total}
use Rattle.answer.specs.Steps.{step_count, step_of}
use Rattle.answer.specs.declared.steps.Step.{Step}
use Rattle.interpolant.specs.Interpolation.{Cut, line_count}
use Rattle.interpolant.specs.Parting.{width_in, cut_of}
use Rattle.interpolant.specs.declared.draw.Short.{Short}
use Rattle.interpolant.specs.declared.draw.Short.TheVariants.{LineValues, Formula}
use Rattle.formula.specs.declared.root.Root.{Root}

-- ---- the lines, one by one: f is a formula list with n gates, and the lines before have the literals vs
-- the OR of x and of the shared literals of a clause, each as the latch's literal that it is of in frame 1
abbrev pub or_shared : ℕ → Cut → List ℕ → ℕ → ℕ → List ℕ → Outcome
or_shared w u [] x n f = grown x n f
or_shared w u (y ∷ ys) x n f =
    cond (u.shared (y / 2)) (onward (disjoin w n f x (y - 2 * w)) (λ x n f. or_shared w u ys x n f)) (or_shared w u ys x n f)

-- a step: the OR of its lines' literals if the pivot is local, else the AND
abbrev pub draw_step : ℕ → Cut → List ℕ → Step → ℕ → List ℕ → Outcome
draw_step w u vs s n f =
    cond (u.local s.pivot) (disjoin w n f (slice_index vs s.first) (slice_index vs s.second))
    (conjoin w n f (slice_index vs s.first) (slice_index vs s.second))

-- line k: a clause of the first part, any other clause of the question, or a step
abbrev pub draw_line : ℕ → Cut → List ℕ → List ℕ → List ℕ → ℕ → ℕ → List ℕ → Outcome
draw_line w u q t vs k n f =
    cond (nat_lt k (clause_count q)) (cond (nat_lt k u.first) (or_shared w u (clause_of q k) 0 n f) (grown 1 n f))
    (draw_step w u vs (step_of t (k - clause_count q)) n f)

-- ---- all lines
-- how many gates there are then, the formula list, and the literals of the lines; or there is no room for a gate
pub data Drawing : Type 0 where
  whole : ℕ → List ℕ → List ℕ → Drawing
  broken : Drawing

abbrev pub proceed : Outcome → (ℕ → ℕ → List ℕ → Drawing) → Drawing
proceed (grown x n f) more = more x n f
proceed short more = broken

-- m lines from line k on
abbrev pub draw_lines : ℕ → Cut → List ℕ → List ℕ → ℕ → ℕ → List ℕ → ℕ → List ℕ → Drawing
draw_lines w u q t zero k vs n f = whole n f vs
draw_lines w u q t (suc m) k vs n f =
    proceed (draw_line w u q t vs k n f) (λ x n f. draw_lines w u q t m (k + 1) (slice_set vs k x) n f)

-- ---- the answer, with the formula list and the line value list at the end
abbrev pub Found : Type 0
Found = Result Root Short × List ℕ × List ℕ

-- what counts of a list is 0
abbrev pub cleared : List ℕ → List ℕ
cleared xs = replicate (length (counted xs)) 0 ++ uncounted xs

-- the last of m lines has the interpolant; where there was no room, both lists are 0
abbrev pub answered : ℕ → List ℕ → List ℕ → Drawing → Found
answered m f vs (whole n f' vs') = (Ok (record { literal = literal (slice_index vs' (m - 1)); gates = n }), f', vs')
answered m f vs broken = (Err Formula, cleared f, replicate (length vs) 0)

-- all lines, into line values that are 0, if there is a place for each of them
abbrev pub draw_all : ℕ → Cut → List ℕ → List ℕ → ℕ → List ℕ → List ℕ → Found
draw_all w u q t n f vs =
    cond (nat_le (line_count q t) (length vs))
    (answered (line_count q t) f vs (draw_lines w u q t (line_count q t) 0 (replicate (length vs) 0) n f))
    (Err LineValues, f, vs)

-- what counts of the line value list is drawn into, and the rest stays
abbrev pub on_values : (List ℕ → Found) → List ℕ → Found
on_values draw vs = ((draw (counted vs)).0, (draw (counted vs)).1, (draw (counted vs)).2 ++ uncounted vs)

-- the drawing of the interpolant of a refutation t of a question q, over the sheet that l lays out
abbrev pub interpolation : List ℕ → List ℕ → List ℕ → List ℕ → ℕ → List ℕ → Found
interpolation l q t f n vs = on_values (draw_all (width_in l) (cut_of l q n) q t n f) vs

-- the places from m on are 0
abbrev pub ZeroFrom : ℕ → List ℕ → Type 0
ZeroFrom m xs = (k : ℕ) → m ≤ k → slice_index xs k ≡ 0

-- f with n gates has become f' with n': the gates before stand as they did, and what lies behind the new ones is as it was
pub record Adds (f : List ℕ) (n : ℕ) (f' : List ℕ) (n' : ℕ) : Type 0 where
  pub more : n ≤ n'
  pub size : length f' ≡ length f
  pub before : (i : ℕ) → i < 2 * n → slice_index f' i ≡ slice_index f i
  pub behind : (i : ℕ) → 2 * n' ≤ i → slice_index f' i ≡ slice_index f i

-- the most gates that drawing needs: one for each literal of the first part, and one for each step
abbrev pub most_gates : List ℕ → List ℕ → ℕ
most_gates q t = total (clause_of q) (min (first_count q) (clause_count q)) + step_count t

-- there is room for c gates more in a formula list that has n, and their literals have 32 bits
abbrev pub HasRoom : ℕ → ℕ → ℕ → List ℕ → Type 0
HasRoom w c n f = (2 * (n + c) ≤ length (counted f)) × (w + n + c ≤ 2 ^ 31)

-- no more are drawn, and the formula list is short only where there is no room for so many
abbrev pub NeedsGates : List ℕ → List ℕ → List ℕ → List ℕ → ℕ → Result Root Short → Type 0
NeedsGates l q t f n (Ok d) = d.gates ≤ n + most_gates q t
NeedsGates l q t f n (Err LineValues) = Unit {0}
NeedsGates l q t f n (Err Formula) = HasRoom (width_in l) (most_gates q t) n f → ⊥

-- which list is short: that of the line values is looked at first, and then nothing is written; without room for a gate what counts
-- of both lists is 0
abbrev pub SaysWhich : List ℕ → List ℕ → List ℕ → List ℕ → Found → Type 0
SaysWhich q t f vs (Ok d, f', vs') = line_count q t ≤ length (counted vs)
SaysWhich q t f vs (Err LineValues, f', vs') = (length (counted vs) < line_count q t) × (f' ≡ f) × (vs' ≡ vs)
SaysWhich q t f vs (Err Formula, f', vs') = (line_count q t ≤ length (counted vs)) × (f' ≡ cleared f) × (vs' ≡ cleared vs)

-- ---- what the parts of the drawing are found to have done
-- what lies behind the places that count is as it was
pub record Stays (f f' : List ℕ) : Type 0 where
  pub rest : uncounted f' ≡ uncounted f

-- a line's literal and the gates then, with the list at the end; or no room
abbrev pub Gives : Option Root → List ℕ → Outcome → Type 0
Gives r f o = MatchOption r (o ≡ short) (λ d. o ≡ grown d.literal.0 d.gates f)

abbrev pub GivesAll : Option ℕ → List ℕ → List ℕ → Drawing → Type 0
GivesAll r f vs o = MatchOption r (o ≡ broken) (λ n. o ≡ whole n f vs)
