-- Readers of a text line by line, and where they refuse one: what stands before that line can be gone on with, and the lines
-- up to it are refused whatever follows them. Assumes nothing.
use Rattle.std.proofs.Common.{◌≡◌, ℕ, zero, suc, ◌+◌, ◌⊎◌, List, [], ◌∷◌, ◌++◌, length, take, drop, Ok, Err, Result, sym, refl, ap, ◌∙◌, subst, inl, inr, ⊎_elim, arith}
use Rattle.std.proofs.lemmas.List.{append_assoc, append-nil, length-append, take_all, drop_all, take_at, drop_at}
use Rattle.std.proofs.lemmas.Bool.{cond-true, cond-false, le-ltb, eq-eqb, ne_eqb, cases_eq}
use Rattle.sheet.specs.declared.fault.Cause.TheVariants.{LineNotEnded}
use Rattle.sheet.specs.declared.fault.Fault.{Fault}
use Rattle.sheet.specs.Faults.{and_then, given}
use Rattle.sheet.specs.Parts.{up_to}
use Rattle.sheet.specs.Parse.{refusal, line_of}
use Rattle.sheet.specs.FirstLine.{first_lines}
use Rattle.sheet.proofs.Spelling.{Clear}
use Rattle.sheet.proofs.There.{up_to_clear, line_of_text}

-- a line without its end: byte 10 stands nowhere in it
abbrev pub Free : List ℕ → Type 0
Free x = up_to 10 x ≡ length x

-- a text with a line that has an end
pub record Ended (t : List ℕ) : Type 0 where
  pub line : List ℕ
  pub rest : List ℕ
  pub free : Free line
  pub is : t ≡ line ++ (10 ∷ rest)

pub split : (t : List ℕ) → Free t ⊎ Ended t
split [] = inl refl
split (y ∷ t) =
    ⊎_elim
    (λ e. inr (record { line = []; rest = t; free = refl; is = ap (λ x. x ∷ t) e }))
    (λ ne.
    let on : (s : List ℕ) → Free s → Free (y ∷ s) = λ s f. cond-false _ _ _ (ne_eqb y 10 ne) ∙ ap suc f in
    ⊎_elim
    (λ f. inl (on t f))
    (λ e. inr (record { line = y ∷ e.line; rest = e.rest; free = on e.line e.free; is = ap (λ s. y ∷ s) e.is }))
    (split t))
    (cases_eq y 10)

pub clear_of : (x : List ℕ) → Free x → Clear 10 x
clear_of [] f = tt
clear_of (y ∷ x) f =
    ⊎_elim
    (λ e. let none : up_to 10 (y ∷ x) ≡ 0 = cond-true _ _ _ (eq-eqb y 10 e) in absurd (omega arith))
    (λ ne. let on : up_to 10 (y ∷ x) ≡ suc (up_to 10 x) = cond-false _ _ _ (ne_eqb y 10 ne) in (ne, clear_of x (omega arith)))
    (cases_eq y 10)

pub up_to_end : (x r : List ℕ) → Free x → up_to 10 (x ++ (10 ∷ r)) ≡ length x
up_to_end x r f = up_to_clear 10 x r (clear_of x f)

length_end : (x r : List ℕ) → length (x ++ (10 ∷ r)) ≡ length x + suc (length r)
length_end x r = length-append x (10 ∷ r)

-- a text whose first line has an end, and one whose first line has none
take_end : (x r : List ℕ) → take (length x + 1) (x ++ (10 ∷ r)) ≡ x ++ (10 ∷ [])
take_end x r =
    ap (take (length x + 1)) (sym (append_assoc x (10 ∷ []) r)) ∙ take_at (x ++ (10 ∷ [])) r (length x + 1) (length-append x (10 ∷ []))

pub drop_end : (x r : List ℕ) → drop (length x + 1) (x ++ (10 ∷ r)) ≡ r
drop_end x r =
    ap (drop (length x + 1)) (sym (append_assoc x (10 ∷ []) r)) ∙ drop_at (x ++ (10 ∷ [])) r (length x + 1) (length-append x (10 ∷ []))

pub first_ended : (q : ℕ) (x r : List ℕ) → Free x → first_lines (suc q) (x ++ (10 ∷ r)) ≡ x ++ (10 ∷ first_lines q r)
first_ended q x r f =
    let t = x ++ (10 ∷ r) in
    ap (λ k. take (k + 1) t ++ first_lines q (drop (k + 1) t)) (up_to_end x r f)
    ∙ (λ i. take_end x r i ++ first_lines q (drop_end x r i))
    ∙ append_assoc x (10 ∷ []) (first_lines q r)

first_none : (q : ℕ) → first_lines q [] ≡ []
first_none zero = refl
first_none (suc q) = first_none q

pub first_open : (q : ℕ) (t : List ℕ) → Free t → first_lines (suc q) t ≡ t
first_open q t f =
    let front = take_all (up_to 10 t + 1) t (omega arith) in
    let rest = drop_all (up_to 10 t + 1) t (omega arith) in
    (λ i. front i ++ first_lines q (rest i)) ∙ ap (λ s. t ++ s) (first_none q) ∙ append-nil t

-- a line without an end is not one with an end
open_not : (t x r : List ℕ) → Free t → Free x → t ≡ x ++ (10 ∷ r) → ⊥
open_not t x r f g e = omega (arith, ap length e, ap (up_to 10) e, up_to_end x r g, length_end x r)

pub same_end : (x y r s : List ℕ) → Free x → Free y → x ++ (10 ∷ r) ≡ y ++ (10 ∷ s) → (x ≡ y) × (r ≡ s)
same_end x y r s f g e =
    let long : length y ≡ length x = sym (up_to_end y s g) ∙ sym (ap (up_to 10) e) ∙ up_to_end x r f in
    let front : x ≡ y = sym (take_at x (10 ∷ r) (length x) refl) ∙ ap (take (length x)) e ∙ take_at y (10 ∷ s) (length x) long in
    let tail : 10 ∷ r ≡ 10 ∷ s = sym (drop_at x (10 ∷ r) (length x) refl) ∙ ap (drop (length x)) e ∙ drop_at y (10 ∷ s) (length x) long in
    (front, cc)

-- texts that begin alike
pub record Aligned (q : ℕ) (x r u : List ℕ) : Type 0 where
  pub rest : List ℕ
  pub is : u ≡ x ++ (10 ∷ rest)
  pub same : first_lines q r ≡ first_lines q rest

pub align : (q : ℕ) (x r u : List ℕ) → Free x → first_lines (suc q) (x ++ (10 ∷ r)) ≡ first_lines (suc q) u → Aligned q x r u
align q x r u f e =
    let whole : x ++ (10 ∷ first_lines q r) ≡ first_lines (suc q) u = sym (first_ended q x r f) ∙ e in
    ⊎_elim
    (λ (g : Free u). absurd (open_not u x (first_lines q r) g f (sym (first_open q u g) ∙ sym whole)))
    (λ (d : Ended u).
    let y = d.line in
    let s = d.rest in
    let two = same_end x y (first_lines q r) (first_lines q s) f d.free (whole ∙ ap (first_lines (suc q)) d.is ∙ first_ended q y s d.free) in
    record { rest = s; is = d.is ∙ ap (λ k. k ++ (10 ∷ s)) (sym two.0); same = two.1 })
    (split u)

align_open : (t u : List ℕ) → Free t → first_lines 1 t ≡ first_lines 1 u → Free u
align_open t u f e =
    ⊎_elim (λ g. g)
    (λ (d : Ended u).
    absurd (open_not t d.line [] f d.free (sym (first_open 0 t f) ∙ e ∙ ap (first_lines 1) d.is ∙ first_ended 0 d.line d.rest d.free)))
    (split u)

-- where a reader that begins at line j refuses a text
pub record Departs {Y : Type 0} (F : List ℕ → Result Y Fault) (j : ℕ) (t : List ℕ) (e : Fault) : Type 0 where
  pub before : ℕ
  pub place : e.place ≡ j + before
  pub wrong : (u : List ℕ) → first_lines (suc before) t ≡ first_lines (suc before) u → F u ≡ Err e
  pub text : List ℕ
  pub gives : Y
  pub accepted : F text ≡ Ok gives
  pub same : first_lines before t ≡ first_lines before text

-- a reader of lines, which begins at line j
pub record Lined {Y : Type 0} (j : ℕ) (F : List ℕ → Result Y Fault) : Type 0 where
  pub text : List ℕ
  pub gives : Y
  pub accepted : F text ≡ Ok gives
  pub departs : (t : List ℕ) (e : Fault) → F t ≡ Err e → Departs F j t e

pub err_same : {X : Type 0} (d e : Fault) → ◌≡◌ {A = Result X Fault} (Err d) (Err e) → d ≡ e
err_same d e h = cc

-- a reader that reads the first line by itself, and goes on with what follows
abbrev pub step : {V Y : Type 0} → ℕ → (List ℕ → Result V Fault) → (V → List ℕ → Result Y Fault) → List ℕ → Result Y Fault
step j one go t = and_then (line_of j t) (λ l. and_then (one l.0) (λ v. go v l.1))

-- refusals are of line j
abbrev pub Placed : {X : Type 0} → ℕ → Result X Fault → Type 0
Placed j (Ok x) = Unit {0}
Placed j (Err e) = e.place ≡ j

module _ {V Y : Type 0} (j : ℕ) (one : List ℕ → Result V Fault) (go : V → List ℕ → Result Y Fault) where
  pub step_open : (t : List ℕ) → Free t → step j one go t ≡ Err (refusal LineNotEnded j)
  step_open t f =
      ap (λ l. and_then (given l (refusal LineNotEnded j)) (λ l. and_then (one l.0) (λ v. go v l.1))) (cond-false _ _ _ (le-ltb (up_to 10 t) (length t) (omega arith)))

  pub step_ended : (x r : List ℕ) → Free x → step j one go (x ++ (10 ∷ r)) ≡ and_then (one x) (λ v. go v r)
  step_ended x r f =
      ap (λ l. and_then l (λ l. and_then (one l.0) (λ v. go v l.1))) (line_of_text j x r (clear_of x f))

  -- the same at a line that gives v, and at one that is refused
  pub step_on : (x r : List ℕ) (v : V) → Free x → one x ≡ Ok v → step j one go (x ++ (10 ∷ r)) ≡ go v r
  step_on x r v f is = step_ended x r f ∙ ap (λ o. and_then o (λ v. go v r)) is

  step_stop : (x r : List ℕ) (e : Fault) → Free x → one x ≡ Err e → step j one go (x ++ (10 ∷ r)) ≡ Err e
  step_stop x r e f is = step_ended x r f ∙ ap (λ o. and_then o (λ v. go v r)) is

  module _ (x₀ : List ℕ) (v₀ : V) (free : Free x₀) (is₀ : one x₀ ≡ Ok v₀) (placed : (x : List ℕ) → Placed j (one x)) (next : (x : List ℕ) (v : V) → one x ≡ Ok v → Lined (j + 1) (go v)) where
    some_text : List ℕ
    some_text = x₀ ++ (10 ∷ (next x₀ v₀ is₀).text)

    some_gives : Y
    some_gives = (next x₀ v₀ is₀).gives

    some_accepted : step j one go some_text ≡ Ok some_gives
    unfolding some_text some_gives
    some_accepted = step_on x₀ (next x₀ v₀ is₀).text v₀ free is₀ ∙ (next x₀ v₀ is₀).accepted

    -- refused at its first line
    at_once : (t : List ℕ) (e : Fault) → e.place ≡ j → ((u : List ℕ) → first_lines 1 t ≡ first_lines 1 u → step j one go u ≡ Err e) → Departs (step j one go) j t e
    at_once t e p w =
        record { before = 0; place = omega arith; wrong = w; text = some_text; gives = some_gives; accepted = some_accepted; same = refl }

    departs_open : (t : List ℕ) (e : Fault) → Free t → step j one go t ≡ Err e → Departs (step j one go) j t e
    departs_open t e f h =
        let is : refusal LineNotEnded j ≡ e = err_same _ _ (sym (step_open t f) ∙ h) in
        at_once t e (ap (λ (d : Fault). d.place) (sym is)) (λ u same. step_open u (align_open t u f same) ∙ ap Err is)

    departs_ended : (x r : List ℕ) (e : Fault) (o : Result V Fault) → one x ≡ o → Free x → and_then o (λ v. go v r) ≡ Err e → Departs (step j one go) j (x ++ (10 ∷ r)) e
    departs_ended x r e (Err d) is f h =
        let same_fault : d ≡ e = err_same _ _ h in
        let fault_of : one x ≡ Err e = is ∙ ap Err same_fault in
        at_once (x ++ (10 ∷ r)) e (subst (Placed j) fault_of (placed x))
        (λ u same.
        let a = align 0 x r u f same in
        ap (step j one go) a.is ∙ step_stop x a.rest e f fault_of)
    departs_ended x r e (Ok v) is f h =
        let d = (next x v is).departs r e h in
        let p = d.place in
        record {
          before = suc d.before;
          place = omega arith;
          wrong = λ u same.
              let a = align (suc d.before) x r u f same in
              ap (step j one go) a.is ∙ step_on x a.rest v f is ∙ d.wrong a.rest a.same;
          text = x ++ (10 ∷ d.text);
          gives = d.gives;
          accepted = step_on x d.text v f is ∙ d.accepted;
          same = first_ended d.before x r f ∙ ap (λ s. x ++ (10 ∷ s)) d.same ∙ sym (first_ended d.before x d.text f);
        }

    pub lined_step : Lined j (step j one go)
    lined_step =
        record {
          text = some_text;
          gives = some_gives;
          accepted = some_accepted;
          departs = λ t e h.
              ⊎_elim
              (λ f. departs_open t e f h)
              (λ (d : Ended t).
              let P : List ℕ → Type 0 = λ t. Departs (step j one go) j t e in
              subst P (sym d.is) (departs_ended d.line d.rest e (one d.line) refl d.free (sym (step_ended d.line d.rest d.free) ∙ ap (step j one go) (sym d.is) ∙ h)))
              (split t);
        }
