-- What can be told from the text of a report or of a refusal: all that it was made from, but for the list that was too short.
-- Assumes nothing.
use Rattle.std.proofs.Common.{◌≡◌, ℕ, zero, suc, ◌+◌, ◌*◌, ◌/◌, ◌%◌, ◌^◌, ◌<◌, ◌≤◌, Bool, true, false, cond, eqb, ltb, List, [], ◌∷◌, ◌++◌, get_or, drop, codes, decimal, sym, refl, ap, ◌∙◌, append_assoc, add_assoc, zero-add, arith}
use Rattle.std.proofs.lemmas.Fmt.{decimal_injective}
use Rattle.std.proofs.lemmas.List.{append_cancel_left}
use Rattle.std.proofs.lemmas.Bool.{eqb-true}
use Rattle.std.specs.Fmt.{digits, digits_onto, digit_glyph}
use Rattle.lists.specs.Counted.{counted}
use Rattle.sheet.specs.Sheets.{input_count, latch_count}
use Rattle.sheet.specs.Faults.{cause_number}
use Rattle.sheet.proofs.Causes.{number_small}
use Rattle.sheet.specs.declared.fault.Fault.{Fault}
use Rattle.checker.specs.Reports.{numbers_from, verdict_word}
use Rattle.checker.specs.declared.Lack.TheVariants.{Formula}
use Rattle.checker.specs.declared.report.Report.{Report}
use Rattle.checker.specs.declared.report.Verdict.{Verdict}
use Rattle.checker.specs.declared.report.Verdict.TheVariants.{Safe, Run, Undecided, Spent, Short}
use Rattle.driver.specs.Texts.{numbers_text, line_text, frame_text, frames_text, run_text, ended_text, refusal_line, fault_text, as_told, TellsReport, TellsFault}

-- ---- the bytes of a number lie above the space and the line's end
abbrev High : List ℕ → Type 0
High [] = Unit {0}
High (c ∷ cs) = (48 ≤ c) × High cs

high_glyph : (d : ℕ) → 48 ≤ digit_glyph false d
high_glyph d = elim (ltb d 10) as (λ b. 48 ≤ cond b (48 + d) (87 + d)) [ true ↦ omega arith | false ↦ omega arith ]

high_spelled : (k n : ℕ) (acc : List ℕ) → High acc → High (digits_onto k 10 false n acc)
high_spelled zero n acc h = h
high_spelled (suc k) n acc h =
    elim (eqb (n / 10) 0)
    as (λ b. High (cond b (digit_glyph false (n % 10) ∷ acc) (digits_onto k 10 false (n / 10) (digit_glyph false (n % 10) ∷ acc))))
    [ true ↦ (high_glyph (n % 10), h) | false ↦ high_spelled k (n / 10) (digit_glyph false (n % 10) ∷ acc) (high_glyph (n % 10), h) ]

high_decimal : (n : ℕ) → High (decimal n)
unfolding digits
high_decimal n = high_spelled 64 n [] tt

-- so a number ends at the first byte below them
split : (xs ys u v : List ℕ) (c d : ℕ) → High xs → High ys → c < 48 → d < 48 → xs ++ (c ∷ u) ≡ ys ++ (d ∷ v) → (xs ≡ ys) × (u ≡ v)
split [] [] u v c d hx hy lc ld e = (refl, ap (drop 1) e)
split [] (y ∷ ys) u v c d hx hy lc ld e = let same : c ≡ y = ap (λ (l : List ℕ). get_or l 0 0) e in absurd (omega (arith, hy.0))
split (x ∷ xs) [] u v c d hx hy lc ld e = let same : x ≡ d = ap (λ (l : List ℕ). get_or l 0 0) e in absurd (omega (arith, hx.0))
split (x ∷ xs) (y ∷ ys) u v c d hx hy lc ld e =
    let same : x ≡ y = ap (λ (l : List ℕ). get_or l 0 0) e in
    let rest = split xs ys u v c d hx.1 hy.1 lc ld (ap (drop 1) e) in
    ((λ i. same i ∷ rest.0 i), rest.1)

-- two numbers, and whatever lines follow
opened : (a b : ℕ) (more : List ℕ) → numbers_text (a ∷ b ∷ []) ++ more ≡ 32 ∷ (decimal a ++ (32 ∷ (decimal b ++ (10 ∷ more))))
opened a b more =
    ap (λ (ys : List ℕ). 32 ∷ ys)
    (append_assoc (decimal a) (32 ∷ (decimal b ++ (10 ∷ []))) more ∙ ap (λ (ys : List ℕ). decimal a ++ (32 ∷ ys)) (append_assoc (decimal b) (10 ∷ []) more))

two_numbers : (a b c d : ℕ) (more rest : List ℕ) → a < 2 ^ 32 → b < 2 ^ 32 → c < 2 ^ 32 → d < 2 ^ 32
    → numbers_text (a ∷ b ∷ []) ++ more ≡ numbers_text (c ∷ d ∷ []) ++ rest → (a ≡ c) × (b ≡ d)
two_numbers a b c d more rest la lb lc ld e =
    let first = split (decimal a) (decimal c) (decimal b ++ (10 ∷ more)) (decimal d ++ (10 ∷ rest)) 32 32 (high_decimal a) (high_decimal c) (omega arith) (omega arith)
    (ap (drop 1) (sym (opened a b more) ∙ e ∙ opened c d rest)) in
    let second = split (decimal b) (decimal d) more rest 10 10 (high_decimal b) (high_decimal d) (omega arith) (omega arith) first.1 in
    (decimal_injective a c (omega arith) (omega arith) first.0, decimal_injective b d (omega arith) (omega arith) second.0)

-- ---- how many lines a text has
abbrev lines : List ℕ → ℕ
lines [] = 0
lines (c ∷ cs) = cond (eqb c 10) 1 0 + lines cs

lines_append : (xs ys : List ℕ) → lines (xs ++ ys) ≡ lines xs + lines ys
lines_append [] ys = sym (zero-add (lines ys))
lines_append (x ∷ xs) ys = ap (λ (n : ℕ). cond (eqb x 10) 1 0 + n) (lines_append xs ys) ∙ sym (add_assoc (cond (eqb x 10) 1 0) (lines xs) (lines ys))

no_end : (c : ℕ) → 48 ≤ c → (b : Bool) → eqb c 10 ≡ b → ◌≡◌ {A = ℕ} (cond b 1 0) 0
no_end c h true e = absurd (omega (arith, eqb-true c 10 e))
no_end c h false e = refl

lines_high : (xs : List ℕ) → High xs → lines xs ≡ 0
lines_high [] h = refl
lines_high (c ∷ cs) h = omega (arith, no_end c h.0 (eqb c 10) refl, lines_high cs h.1)

lines_numbers : (ns : List ℕ) → lines (numbers_text ns) ≡ 1
lines_numbers [] = refl
lines_numbers (n ∷ ns) = omega (arith, lines_append (decimal n) (numbers_text ns), lines_high (decimal n) (high_decimal n), lines_numbers ns)

lines_frame : (n k : ℕ) (xs : List ℕ) → lines (frame_text n k xs) ≡ 2
lines_frame n k xs =
    let states : List ℕ = numbers_from xs 0 n in
    let inputs : List ℕ = numbers_from (drop n xs) 0 k in
    omega (arith, lines_append (numbers_text states) (line_text (codes "i") inputs), lines_numbers states, lines_numbers inputs)

lines_frames : (m n k : ℕ) (xs : List ℕ) → lines (frames_text m n k xs) ≡ 2 * m
lines_frames zero n k xs = refl
lines_frames (suc m) n k xs =
    let rest : List ℕ = drop k (drop n xs) in
    let both : lines (frame_text n k xs ++ frames_text m n k rest) ≡ lines (frame_text n k xs) + lines (frames_text m n k rest) = lines_append (frame_text n k xs) (frames_text m n k rest) in
    both ∙ omega (arith, lines_frame n k xs, lines_frames m n k rest)

frames : Verdict → ℕ
frames Safe = 0
frames (Run m) = suc m
frames Undecided = 0
frames Spent = 0
frames (Short which) = 0

lines_run : (v : Verdict) (n k : ℕ) (xs : List ℕ) → lines (run_text v n k xs) ≡ 2 * frames v
unfolding frames
lines_run Safe n k xs = refl
lines_run (Run m) n k xs = lines_frames (suc m) n k xs
lines_run Undecided n k xs = refl
lines_run Spent n k xs = refl
lines_run (Short which) n k xs = refl

lines_word : (v : Verdict) → lines (verdict_word v) ≡ 0
lines_word Safe = refl
lines_word (Run m) = refl
lines_word Undecided = refl
lines_word Spent = refl
lines_word (Short which) = refl

-- the frames of a run that was read off, in a sheet's counts
abbrev run_part : Report → List ℕ → List ℕ → List ℕ
run_part r l run = run_text r.verdict (latch_count (counted l)) (input_count (counted l)) (counted run)

abbrev counts : Report → List ℕ
counts r = numbers_text (r.bound ∷ r.turns ∷ [])

lines_ended : (r : Report) (l run : List ℕ) → lines (ended_text r l run) ≡ 1 + 2 * frames r.verdict
lines_ended r l run =
    let whole : lines (ended_text r l run) ≡ lines (verdict_word r.verdict ++ counts r) + lines (run_part r l run) = lines_append (verdict_word r.verdict ++ counts r) (run_part r l run) in
    let first : lines (verdict_word r.verdict ++ counts r) ≡ lines (verdict_word r.verdict) + lines (counts r) = lines_append (verdict_word r.verdict) (counts r) in
    let numbers : lines (counts r) ≡ 1 = lines_numbers (r.bound ∷ r.turns ∷ []) in
    whole
    ∙ omega (arith, first, numbers, lines_word r.verdict, lines_run r.verdict (latch_count (counted l)) (input_count (counted l)) (counted run))

-- ---- the second letter is another in each word
letter : Verdict → ℕ
letter Safe = 97
letter (Run m) = 117
letter Undecided = 110
letter Spent = 112
letter (Short which) = 104

second : (v : Verdict) (more rest : List ℕ) → get_or ((verdict_word v ++ more) ++ rest) 1 0 ≡ letter v
unfolding letter
second Safe more rest = refl
second (Run m) more rest = refl
second Undecided more rest = refl
second Spent more rest = refl
second (Short which) more rest = refl

none_says_no : (v : Verdict) → letter v ≡ 111 → ⊥
unfolding letter
none_says_no Safe e = omega arith
none_says_no (Run m) e = omega arith
none_says_no Undecided e = omega arith
none_says_no Spent e = omega arith
none_says_no (Short which) e = omega arith

-- from it and the frames, the verdict
steps : ℕ → ℕ
steps zero = 0
steps (suc m) = m

named : ℕ → ℕ → Verdict
named c n = cond (eqb c 97) Safe (cond (eqb c 117) (Run (steps n)) (cond (eqb c 110) Undecided (cond (eqb c 112) Spent (Short Formula))))

named_is : (v : Verdict) → as_told v ≡ named (letter v) (frames v)
unfolding letter frames steps named
named_is Safe = refl
named_is (Run m) = refl
named_is Undecided = refl
named_is Spent = refl
named_is (Short which) = refl

word_as_told : (v : Verdict) → verdict_word v ≡ verdict_word (as_told v)
word_as_told Safe = refl
word_as_told (Run m) = refl
word_as_told Undecided = refl
word_as_told Spent = refl
word_as_told (Short which) = refl

same_verdict : (r q : Report) (l run l' run' : List ℕ) → ended_text r l run ≡ ended_text q l' run' → as_told r.verdict ≡ as_told q.verdict
same_verdict r q l run l' run' e =
    let said : letter r.verdict ≡ letter q.verdict =
    sym (second r.verdict (counts r) (run_part r l run)) ∙ ap (λ (t : List ℕ). get_or t 1 0) e ∙ second q.verdict (counts q) (run_part q l' run') in
    let long : frames r.verdict ≡ frames q.verdict = omega (arith, sym (lines_ended r l run) ∙ ap lines e ∙ lines_ended q l' run') in
    named_is r.verdict ∙ (λ i. named (said i) (long i)) ∙ sym (named_is q.verdict)

same_counts : (r q : Report) (l run l' run' : List ℕ) → r.bound < 2 ^ 32 → r.turns < 2 ^ 32 → q.bound < 2 ^ 32 → q.turns < 2 ^ 32
    → ended_text r l run ≡ ended_text q l' run' → (r.bound ≡ q.bound) × (r.turns ≡ q.turns)
same_counts r q l run l' run' lb lt lb' lt' e =
    let w : List ℕ = verdict_word r.verdict in
    let w' : List ℕ = verdict_word q.verdict in
    let words : w' ≡ w = word_as_told q.verdict ∙ ap verdict_word (sym (same_verdict r q l run l' run' e)) ∙ sym (word_as_told r.verdict) in
    two_numbers r.bound r.turns q.bound q.turns (run_part r l run) (run_part q l' run') lb lt lb' lt'
    (append_cancel_left w (counts r ++ run_part r l run) (counts q ++ run_part q l' run')
    (sym (append_assoc w (counts r) (run_part r l run)) ∙ e ∙ append_assoc w' (counts q) (run_part q l' run') ∙ ap (λ (ys : List ℕ). ys ++ (counts q ++ run_part q l' run')) words))

apart : (r : Report) (l run line : List ℕ) → get_or line 1 0 ≡ 111 → ended_text r l run ≡ line → ⊥
apart r l run line is e = none_says_no r.verdict (sym (second r.verdict (counts r) (run_part r l run)) ∙ ap (λ (t : List ℕ). get_or t 1 0) e ∙ is)

-- ---- all of it, of a text that was made
pub tells_report : (r : Report) (l run text : List ℕ) → r.bound < 2 ^ 32 → r.turns < 2 ^ 32 → text ≡ ended_text r l run → TellsReport r text
tells_report r l run text lb lt is = record {
  verdict = λ q l' run' e. same_verdict r q l run l' run' (sym is ∙ e);
  counts = λ q l' run' lb' lt' e. same_counts r q l run l' run' lb lt lb' lt' (sym is ∙ e);
  no_refusal = λ f e. apart r l run (fault_text f) refl (sym is ∙ e);
  no_number = λ n p e. apart r l run (refusal_line n p) refl (sym is ∙ e);
}

-- the words of a refusal, and the line's end, are those of a line
pub as_line : (f : Fault) → fault_text f ≡ refusal_line (cause_number f.cause) f.place
as_line f = ap (λ (r : List ℕ). 110 ∷ 111 ∷ 32 ∷ r) (append_assoc (decimal (cause_number f.cause)) (32 ∷ decimal f.place) (10 ∷ []))

told_number : (f : Fault) (text : List ℕ) → f.place < 2 ^ 32 → text ≡ fault_text f → (n p : ℕ) → n < 2 ^ 32 → p < 2 ^ 32 → text ≡ refusal_line n p
    → (cause_number f.cause ≡ n) × (f.place ≡ p)
told_number f text lp is n p ln lp' e = two_numbers (cause_number f.cause) f.place n p [] [] (number_small f.cause) lp ln lp'
    (ap (λ (ys : List ℕ). drop 2 ys ++ []) (sym (as_line f) ∙ sym is ∙ e))

pub tells_fault : (f : Fault) (text : List ℕ) → f.place < 2 ^ 32 → text ≡ fault_text f → TellsFault f text
tells_fault f text lp is = record {
  numbers = λ g lp' e. told_number f text lp is (cause_number g.cause) g.place (number_small g.cause) lp' (e ∙ as_line g);
  any_number = told_number f text lp is;
  no_verdict = λ r l run e. apart r l run (fault_text f) refl (sym e ∙ is);
}
