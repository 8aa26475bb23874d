-- What a recording of answers does: how many records there are, three numbers for each, and their bodies. Assumes nothing.
use Rattle.std.specs.Prelude.{ℕ, ◌+◌, ◌-◌, ◌*◌, Bool, cond, ◌&&◌, List, ◌++◌, length, take, drop, replicate, ◌==◌, nat_le, nat_lt, slice_index}
use Rattle.lists.specs.Counted.{counted, uncounted}
use Rattle.question.specs.Questions.{variable_count}
use Rattle.producer.specs.declared.interface.Reply.{Reply}
use Rattle.producer.specs.declared.interface.Reply.TheVariants.{Assignment, Refutation, TooLong}

-- the three numbers of a record: its kind, the place of its body and how long that is
pub record Header : Type 0 where
  pub kind : ℕ
  pub place : ℕ
  pub size : ℕ

abbrev pub header_at : List ℕ → ℕ → Header
header_at tape i = record { kind = slice_index tape (3 * i + 1); place = slice_index tape (3 * i + 2); size = slice_index tape (3 * i + 3) }

-- an assignment has a number for each of v variables, and a refutation may have any length
abbrev pub is_kind : ℕ → Header → Bool
is_kind v r = cond (r.kind == 0) (r.size == v) (r.kind == 1)

-- record i and its body lie in the recording, there is room for the body, and its kind is right
abbrev pub is_sound : List ℕ → ℕ → ℕ → ℕ → Bool
is_sound tape i v room =
    let r = header_at tape i in
    nat_le (3 * i + 4) (length tape) && (nat_le (r.place + r.size) (length tape) && (nat_le r.size room && is_kind v r))

abbrev pub reply_of : Header → Reply
reply_of r = cond (r.kind == 0) Assignment Refutation

abbrev pub body_of : List ℕ → Header → List ℕ
body_of tape r = take r.size (drop r.place tape)

-- a body, and zeros behind it, in a list of n places
abbrev pub body_in : List ℕ → Header → ℕ → List ℕ
body_in tape r n = body_of tape r ++ replicate (n - r.size) 0

-- what record i answers: the reply, and the answer list
abbrev pub recited : List ℕ → ℕ → ℕ → List ℕ → Reply × List ℕ
recited tape i v a = cond (is_sound tape i v (length a)) (reply_of (header_at tape i), body_in tape (header_at tape i) (length a)) (TooLong, a)

-- one call at the position i: the reply, the answer list and the position then. Each call uses up a record, also one that is
-- amiss; past the last nothing happens
abbrev pub replayed : List ℕ → ℕ → ℕ → List ℕ → Reply × List ℕ × ℕ
replayed tape i v a = cond (nat_lt i (slice_index tape 0)) ((recited tape i v a).0, (recited tape i v a).1, i + 1) (TooLong, a, i)

-- the same of whole lists, of which the first places count: the reply, both lists, the recording and the position after
abbrev pub replay : List ℕ → ℕ → List ℕ → List ℕ → List ℕ → Reply × List ℕ × List ℕ × List ℕ × ℕ
replay tape i q a w =
    let k = replayed (counted tape) i (variable_count (counted q)) (counted a) in
    (k.0, k.1 ++ uncounted a, w, tape, k.2)
