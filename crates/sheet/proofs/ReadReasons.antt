-- Each refusal of a text at a line has the reason that its number says. Assumes nothing.
use Rattle.std.proofs.Common.{◌≡◌, ℕ, zero, suc, ◌+◌, ◌-◌, ◌*◌, true, false, eqb, leb, ◌⊎◌, List, [], ◌∷◌, ◌++◌, length, get_or, take, drop, Ok, Err, Result, sym, refl, ap, ◌∙◌, subst, inl, inr, ⊎_elim, arith}
use Rattle.std.proofs.lemmas.List.{append_assoc, append-nil, get_or-take}
use Rattle.std.proofs.lemmas.Bool.{cond-true, cond-false, eqb-false, cases_Bool}
use Rattle.lists.specs.Counted.{counted}
use Rattle.sheet.specs.declared.fault.Cause.{Cause}
use Rattle.sheet.specs.declared.fault.Cause.TheVariants.{TextTooLong, LineNotEnded, TextGoesOn}
use Rattle.sheet.specs.declared.fault.Fault.{Fault}
use Rattle.sheet.specs.declared.line.Due.{Due}
use Rattle.sheet.specs.declared.line.Due.TheVariants.{OfLatch, OfGate}
use Rattle.sheet.specs.Sheets.{Legal, input_count, latch_count, gate_count, bad_of, literal_limit, most_literal, size_of}
use Rattle.sheet.specs.Faults.{and_then, demand}
use Rattle.sheet.specs.Parse.{refusal, read_pairs, read_bad, parse_rest, parse_lines, parse, stored, read_text}
use Rattle.sheet.specs.Render.{line_text, pairs_text, text_of}
use Rattle.sheet.specs.FirstLine.{first_lines}
use Rattle.sheet.specs.Reasons.{after_lines, Kind, contents_line, bad_line, IsLine, Wrong, not_ended, BeginsAs, Reason, Reasoned}
use Rattle.sheet.proofs.Stages.{latches_of, gates_of, last_of, err_not, and_then_inv, demand_inv, ok_same}
use Rattle.sheet.proofs.ReadSteps.{Free, Ended, split, up_to_end, drop_end, align, err_same, step, step_open, step_ended, step_on}
use Rattle.sheet.proofs.ReadNumbers.{first_line}
use Rattle.sheet.proofs.ReadWrong.{demand_err, not_open, Refused, refused_by, contents_refused, kind_by, count_by, line_by, node_by, is_line_by, line_on, node_on, pair_refused, bad_refused}
use Rattle.sheet.proofs.ReadOnce.{reason_once}
use Rattle.sheet.proofs.ReadFirst.{contents_on, pair_on, bad_on, pairs_are_step, bad_is_step, lines_are_step, lined_rest, some_latch, lines_of}

-- a refusal at line p, or behind the last one, where the text goes on with s
abbrev Why : List ℕ → ℕ → Cause → List ℕ → Type 0
Why l p n s =
    ((k : Kind) × IsLine l k p × Wrong l k s n) ⊎ ((n ≡ TextGoesOn) × (p ≡ 3 + latch_count l + gate_count l) × (s ≡ [] → ⊥))

-- how a reader that begins at line j refuses a text
record Found (l : List ℕ) (j : ℕ) (t : List ℕ) (e : Fault) : Type 0 where
  before : ℕ
  place : e.place ≡ j + before
  why : Why l e.place e.cause (after_lines before t)

abbrev Told : {Y : Type 0} → List ℕ → ℕ → (List ℕ → Result Y Fault) → Type 0
Told l j F = (t : List ℕ) (e : Fault) → F t ≡ Err e → Found l j t e

told_as : {Y : Type 0} (l : List ℕ) (j : ℕ) (F G : List ℕ → Result Y Fault) → ((t : List ℕ) → F t ≡ G t) → Told l j G → Told l j F
told_as l j F G same told t e h = told t e (sym (same t) ∙ h)

found_here : (l : List ℕ) (k : Kind) (j : ℕ) (t : List ℕ) (e : Fault) → IsLine l k j → Refused l k j t e → Found l j t e
found_here l k j t e at w =
    let here = w.0 in
    record { before = 0; place = omega arith; why = inl (k, subst (IsLine l k) (sym here) at, w.1) }

open_refused : (l : List ℕ) (k : Kind) (j : ℕ) (t : List ℕ) (e : Fault) → Free t → refusal LineNotEnded j ≡ e → Refused l k j t e
open_refused l k j t e f is =
    refused_by l k j LineNotEnded t e is (not_ended refl (not_open t f))

after_ended : (q : ℕ) (x r : List ℕ) → Free x → after_lines (suc q) (x ++ (10 ∷ r)) ≡ after_lines q r
after_ended q x r f =
    ap (λ n. after_lines q (drop (n + 1) (x ++ (10 ∷ r)))) (up_to_end x r f) ∙ ap (after_lines q) (drop_end x r)

module _ {V Y : Type 0} (l : List ℕ) (k : Kind) (j : ℕ) (one : List ℕ → Result V Fault) (go : V → List ℕ → Result Y Fault) (at : IsLine l k j) (refused : (x r : List ℕ) (e : Fault) → Free x → one x ≡ Err e → Refused l k j (x ++ (10 ∷ r)) e) (next : (v : V) → Told l (j + 1) (go v)) where
  told_ended : (x r : List ℕ) (e : Fault) (o : Result V Fault) → one x ≡ o → Free x → and_then o (λ v. go v r) ≡ Err e → Found l j (x ++ (10 ∷ r)) e
  told_ended x r e (Err d) is f h =
      found_here l k j (x ++ (10 ∷ r)) e at (refused x r e f (is ∙ ap Err (err_same d e h)))
  told_ended x r e (Ok v) is f h =
      let w = next v r e h in
      let p = w.place in
      record {
        before = suc w.before;
        place = omega arith;
        why = subst (Why l e.place e.cause) (sym (after_ended w.before x r f)) w.why;
      }

  told_step : Told l j (step j one go)
  told_step t e h =
      ⊎_elim
      (λ (f : Free t). found_here l k j t e at (open_refused l k j t e f (err_same _ _ (sym (step_open j one go t f) ∙ h))))
      (λ (d : Ended t).
      let P : List ℕ → Type 0 = λ t. Found l j t e in
      subst P (sym d.is) (told_ended d.line d.rest e (one d.line) refl d.free (sym (step_ended j one go d.line d.rest d.free) ∙ ap (step j one go) (sym d.is) ∙ h)))
      (split t)

told_pairs : {Y : Type 0} (l : List ℕ) (n : ℕ) (d : Due) (j own : ℕ) (before : List ℕ) (p : ℕ) (k : List ℕ × List ℕ → Result Y Fault) → j + n ≡ count_by l d → p ≡ line_by l d j → own ≡ node_by l d j → ((ys : List ℕ) → Told l (p + n) (λ t. k (ys, t))) → Told l p (λ t. and_then (read_pairs n d (literal_limit l) own before p t) k)
told_pairs l zero d j own before p k left at node next =
    let here : p + 0 ≡ p = omega arith in
    subst (λ q. Told l q (λ t. k (before, t))) here (next before)
told_pairs {Y = Y} l (suc n) d j own before p k left at node next =
    let most = literal_limit l in
    let go : ℕ × ℕ → List ℕ → Result Y Fault = λ v r. and_then (read_pairs n d most (own + 1) (before ++ (v.0 ∷ v.1 ∷ [])) (p + 1) r) k in
    let on : p + suc n ≡ p + 1 + n = omega arith in
    told_as l p _ (step p (pair_on d most own p) go) (pairs_are_step n d most own before p k)
    (told_step l (kind_by d j) p (pair_on d most own p) go (is_line_by l d j p (omega arith) at)
    (λ x r e f h. pair_refused l d j p x r e f (ap (λ o. pair_on d most o p x) (sym node) ∙ h))
    (λ v. told_pairs l n d (j + 1) (own + 1) (before ++ (v.0 ∷ v.1 ∷ [])) (p + 1) k (omega arith) (line_on l d j p at) (node_on l d j own node) (λ ys. subst (λ q. Told l q (λ t. k (ys, t))) on (next ys))))

told_bad : {Y : Type 0} (l : List ℕ) (p : ℕ) (k : ℕ × List ℕ → Result Y Fault) → p ≡ 2 + latch_count l + gate_count l → ((a : ℕ) → Told l (p + 1) (λ t. k (a, t))) → Told l p (λ t. and_then (read_bad (literal_limit l) p t) k)
told_bad l p k at next =
    told_as l p _ (step p (bad_on (literal_limit l) p) (λ a r. k (a, r))) (bad_is_step (literal_limit l) p k)
    (told_step l bad_line p (bad_on (literal_limit l) p) (λ a r. k (a, r)) at (bad_refused l p) next)

-- behind the last line
told_last : (l : List ℕ) (j p : ℕ) (y : List ℕ) → p ≡ j → p ≡ 3 + latch_count l + gate_count l → Told l j (λ t. demand (eqb (length t) 0) (refusal TextGoesOn p) (Ok y))
told_last l j p y here at t e h =
    ⊎_elim
    (λ (q : (eqb (length t) 0 ≡ true) × (Ok y ≡ Err e)). absurd (err_not e y (sym q.1)))
    (λ (q : (eqb (length t) 0 ≡ false) × (refusal TextGoesOn p ≡ e)).
    let place : p ≡ e.place = ap (λ (f : Fault). f.place) q.1 in
    record {
      before = 0;
      place = omega arith;
      why = inr (ap (λ (f : Fault). f.cause) (sym q.1), omega arith, λ none. eqb-false (length t) 0 q.0 (ap length none));
    })
    (demand_err (eqb (length t) 0) (refusal TextGoesOn p) (Ok y) e h)

told_rest : (l : List ℕ) → Told l 2 (parse_rest (input_count l) (latch_count l) (gate_count l))
told_rest l =
    let i = input_count l in
    let n = latch_count l in
    let m = gate_count l in
    told_pairs l n OfLatch 0 (1 + i) [] 2 (latches_of i n m) (omega arith) (omega arith) (omega arith)
    (λ ls. told_pairs l m OfGate 0 (1 + i + n) ls (2 + n) (gates_of i n m) (omega arith) (omega arith) (omega arith)
    (λ gs. told_bad l (2 + n + m) (last_of i n m gs) refl
    (λ a. told_last l (2 + n + m + 1) (3 + n + m) (i ∷ n ∷ m ∷ a ∷ gs) (omega arith) refl)))

-- the lines of the text of a list are all of it
first_pairs : (n x q : ℕ) (s r : List ℕ) → (x ≡ 10 → ⊥) → first_lines (n + q) (pairs_text n x s ++ r) ≡ pairs_text n x s ++ first_lines q r
first_pairs zero x q s r ne = let here : 0 + q ≡ q = omega arith in ap (λ k. first_lines k r) here
first_pairs (suc n) x q s r ne =
    let line = line_text x (get_or s 0 0 ∷ get_or s 1 0 ∷ []) in
    let rest = pairs_text n x (drop 2 s) in
    let on : suc n + q ≡ suc (n + q) = omega arith in
    ap (λ k. first_lines k ((line ++ rest) ++ r)) on
    ∙ ap (first_lines (suc (n + q))) (append_assoc line rest r)
    ∙ first_line (n + q) x (get_or s 0 0 ∷ get_or s 1 0 ∷ []) (rest ++ r) ne
    ∙ ap (λ k. line ++ k) (first_pairs n x q (drop 2 s) r ne)
    ∙ sym (append_assoc line rest (first_lines q r))

first_all : (l : List ℕ) → first_lines (2 + latch_count l + gate_count l) (text_of l) ≡ text_of l
first_all l =
    let n = latch_count l in
    let m = gate_count l in
    let head = input_count l ∷ n ∷ m ∷ [] in
    let last = line_text 98 (bad_of l ∷ []) in
    let gates = pairs_text m 103 (drop (4 + 2 * n) l) in
    let latches = pairs_text n 108 (drop 4 l) in
    let lines : 2 + n + m ≡ suc (n + (m + 1)) = omega arith in
    let end : first_lines 1 last ≡ last =
    ap (first_lines 1) (sym (append-nil last)) ∙ first_line 0 98 (bad_of l ∷ []) [] (λ e. omega arith) ∙ append-nil last in
    ap (λ k. first_lines k (text_of l)) lines
    ∙ first_line (n + (m + 1)) 99 head (latches ++ (gates ++ last)) (λ e. omega arith)
    ∙ ap (λ r. line_text 99 head ++ r) (first_pairs n 108 (m + 1) (drop 4 l) (gates ++ last) (λ e. omega arith)
    ∙ ap (λ r. latches ++ r) (first_pairs m 103 1 (drop (4 + 2 * n) l) last (λ e. omega arith) ∙ ap (λ r. gates ++ r) end))

-- what was found in the whole text
reason_from : (t l : List ℕ) (n : Cause) (p q : ℕ) → p ≡ suc q → Why l p n (after_lines q t) → BeginsAs (p - 1) t l → Reason t l n p
reason_from t l n p q at why begins =
    let back : q ≡ p - 1 = omega arith in
    ⊎_elim inl
    (λ (w : (n ≡ TextGoesOn) × (p ≡ 3 + latch_count l + gate_count l) × (after_lines (p - 1) t ≡ [] → ⊥)).
    let end = w.1 in
    let lines : p - 1 ≡ 2 + latch_count l + gate_count l = omega arith in
    inr (record {
      cause = w.0;
      place = end;
      whole = begins ∙ ap (λ k. first_lines k (text_of l)) lines ∙ first_all l;
      more = w.2;
    }))
    (subst (λ k. Why l p n (after_lines k t)) back why)

-- a list that was read has the counts of its contents line
front_counts : (i n m bad : ℕ) (s l : List ℕ) → i ∷ n ∷ m ∷ bad ∷ s ≡ take (size_of l) l → (i ≡ input_count l) × (n ≡ latch_count l) × (m ≡ gate_count l)
front_counts i n m bad s l same = (
  ap (λ xs. get_or xs 0 0) same ∙ get_or-take (size_of l) l 0 0 (omega arith),
  ap (λ xs. get_or xs 1 0) same ∙ get_or-take (size_of l) l 1 0 (omega arith),
  ap (λ xs. get_or xs 2 0) same ∙ get_or-take (size_of l) l 2 0 (omega arith),
)

counts_of : (i n m : ℕ) (u l : List ℕ) → parse_rest i n m u ≡ Ok (take (size_of l) l) → (i ≡ input_count l) × (n ≡ latch_count l) × (m ≡ gate_count l)
counts_of i n m u l h =
    let most = most_literal (i + n + m) in
    let list = take (size_of l) l in
    let s₁ = and_then_inv (read_pairs n OfLatch most (1 + i) [] 2 u) (latches_of i n m) list h in
    let s₂ = and_then_inv (read_pairs m OfGate most (1 + i + n) s₁.0.0 (2 + n) s₁.0.1) (gates_of i n m) list s₁.1.1 in
    let s₃ = and_then_inv (read_bad most (2 + n + m) s₂.0.1) (last_of i n m s₂.0.0) list s₂.1.1 in
    let s₄ = demand_inv (eqb (length s₃.0.1) 0) (refusal TextGoesOn (3 + n + m)) (Ok (i ∷ n ∷ m ∷ s₃.0.0 ∷ s₂.0.0)) list s₃.1.1 in
    front_counts i n m s₃.0.0 s₂.0.0 l (ok_same (i ∷ n ∷ m ∷ s₃.0.0 ∷ s₂.0.0) list s₄.1)

-- the lines after the contents line, by its counts
abbrev rest_by : ℕ × ℕ × ℕ → List ℕ → Result (List ℕ) Fault
rest_by c r = parse_rest c.0 c.1 c.2 r

-- what was found behind the contents line
later_reason : (x r : List ℕ) (f : Fault) (l : List ℕ) → Free x → Found l 2 r f → BeginsAs (f.place - 1) (x ++ (10 ∷ r)) l → Reason (x ++ (10 ∷ r)) l f.cause f.place
later_reason x r f l free found =
    let place = found.place in
    reason_from (x ++ (10 ∷ r)) l f.cause f.place (suc found.before) (omega arith)
    (subst (Why l f.place f.cause) (sym (after_ended found.before x r free)) found.why)

-- a text whose contents line is right
rest_reason : (x r : List ℕ) (c : ℕ × ℕ × ℕ) (f : Fault) (l : List ℕ) → Free x → contents_on x ≡ Ok c → rest_by c r ≡ Err f → Legal l → BeginsAs (f.place - 1) (x ++ (10 ∷ r)) l → Reason (x ++ (10 ∷ r)) l f.cause f.place
rest_reason x r c f l free is h legal begins =
    let t = x ++ (10 ∷ r) in
    let d = (lined_rest c.0 c.1 c.2 (some_latch x c is)).departs r f h in
    let at = d.place in
    let back : f.place - 1 ≡ suc d.before = omega arith in
    let a = align d.before x r (text_of l) free (subst (λ q. BeginsAs q t l) back begins) in
    let read : rest_by c a.rest ≡ Ok (take (size_of l) l) =
    sym (ap parse_lines a.is ∙ lines_are_step (x ++ (10 ∷ a.rest)) ∙ step_on 1 contents_on rest_by x a.rest c free is) ∙ lines_of l legal in
    let e = counts_of c.0 c.1 c.2 a.rest l read in
    later_reason x r f l free (told_rest l r f (sym (λ i. parse_rest (e.0 i) (e.1 i) (e.2 i) r) ∙ h)) begins

-- a text that is refused at its contents line
contents_reason : (t l : List ℕ) (f : Fault) → Refused l contents_line 1 t f → BeginsAs (f.place - 1) t l → Reason t l f.cause f.place
contents_reason t l f w begins = reason_from t l f.cause f.place 0 w.0 (inl (contents_line, w.0, w.1)) begins

ended_reason : (x r : List ℕ) (o : Result (ℕ × ℕ × ℕ) Fault) (f : Fault) (l : List ℕ) → Free x → contents_on x ≡ o → and_then o (λ c. rest_by c r) ≡ Err f → Legal l → BeginsAs (f.place - 1) (x ++ (10 ∷ r)) l → Reason (x ++ (10 ∷ r)) l f.cause f.place
ended_reason x r (Ok c) f l free is h legal begins = rest_reason x r c f l free is h legal begins
ended_reason x r (Err d) f l free is h legal begins =
    contents_reason (x ++ (10 ∷ r)) l f (contents_refused l x r f free (is ∙ ap Err (err_same d f h))) begins

line_reason : (t : List ℕ) (f : Fault) → parse_lines t ≡ Err f → (l : List ℕ) → Legal l → BeginsAs (f.place - 1) t l → Reason t l f.cause f.place
line_reason t f h l legal =
    let stepped : step 1 contents_on rest_by t ≡ Err f = sym (lines_are_step t) ∙ h in
    ⊎_elim
    (λ (g : Free t). contents_reason t l f (open_refused l contents_line 1 t f g (err_same _ _ (sym (step_open 1 contents_on rest_by t g) ∙ stepped))))
    (λ (d : Ended t).
    let P : List ℕ → Type 0 = λ t. BeginsAs (f.place - 1) t l → Reason t l f.cause f.place in
    subst P (sym d.is) (ended_reason d.line d.rest (contents_on d.line) f l d.free refl (sym (step_ended 1 contents_on rest_by d.line d.rest d.free) ∙ ap (step 1 contents_on rest_by) (sym d.is) ∙ stepped) legal))
    (split t)

parse_reason : (t : List ℕ) (f : Fault) → parse t ≡ Err f → Reasoned t (Err f)
parse_reason t f h =
    ⊎_elim
    (λ (q : (leb (length t) 4096 ≡ true) × (parse_lines t ≡ Err f)). inr (λ l legal begins. let w = line_reason t f q.1 l legal begins in (w, λ n v. reason_once t l n f.cause f.place v w)))
    (λ (q : (leb (length t) 4096 ≡ false) × (refusal TextTooLong 0 ≡ f)). inl (ap (λ (f : Fault). f.place) (sym q.1)))
    (demand_err (leb (length t) 4096) (refusal TextTooLong 0) (parse_lines t) f h)

reasoned_by : (t old : List ℕ) (q : Result (List ℕ) Fault) (r : Result ℕ Fault) → parse t ≡ q → r ≡ (stored q old).0 → Reasoned t r
reasoned_by t old (Err f) r h is = subst (Reasoned t) (sym is) (parse_reason t f h)
reasoned_by t old (Ok l) r h is =
    let result = λ (p : Result ℕ Fault × List ℕ). p.0 in
    ⊎_elim
    (λ b. subst (Reasoned t) (sym (is ∙ ap result (cond-true _ _ _ b))) tt)
    (λ b. subst (Reasoned t) (sym (is ∙ ap result (cond-false _ _ _ b))) (inl refl))
    (cases_Bool (leb (length l) (length old)))

-- what reading returns has its reason
pub reasoned : (t old new : List ℕ) (r : Result ℕ Fault) → (r, new) ≡ read_text t old → Reasoned t r
reasoned t old new r h =
    reasoned_by t (counted old) (parse t) r refl (ap (λ (p : Result ℕ Fault × List ℕ). p.0) h)
