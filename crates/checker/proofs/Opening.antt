-- A check that was opened stands at the start question. Assumes nothing.
use Rattle.std.proofs.Common.{◌≡◌, ℕ, ◌^◌, ◌<◌, ◌≤◌, true, ◌&&◌, ltb, leb, List, ◌++◌, length, replicate, IfSome, Some, None, Ok, Err, Option, sym, refl, ap, subst, arith}
use Rattle.std.proofs.lemmas.List.{get_or_append_left}
use Rattle.std.proofs.lemmas.Bool.{cond_both, and_parts, leb-true, ltb-true}
use Rattle.lists.specs.Counted.{counted, uncounted}
use Rattle.sheet.specs.Render.{well_formed}
use Rattle.sheet.specs.Sheets.{Sheet}
use Rattle.procedure.specs.Procedure.{opens}
use Rattle.procedure.specs.Happens.{starters}
use Rattle.formula.specs.Built.{started, write_start}
use Rattle.formula.specs.Conjunction.{Outcome, grown, short}
use Rattle.formula.specs.Starting.{start_in, Starts as StartsWith}
use Rattle.formula.specs.declared.root.Root.{Root}
use Rattle.formula.proofs.Starts.{starts_from}
use Rattle.formula.proofs.Valued.{SamePairs, gates_same}
use Rattle.question.specs.Clauses.{start_clauses}
use Rattle.question.specs.Layout.{start_list, given, posed_if}
use Rattle.question.proofs.Posing.{given_tells}
use Rattle.question.proofs.Promises.{gates_whole, start_lays, start_is_question}
use Rattle.checker.specs.Lists.{lists}
use Rattle.checker.specs.Opening.{Opened, start_asked, start_made, opened}
use Rattle.checker.proofs.Cutting.{posed_sized, front_pairs}
use Rattle.checker.proofs.Restoring.{starts_same, starts_set}
use Rattle.checker.proofs.Posed.{posed_given, poses, some_numbers}
use Rattle.checker.specs.Points.{sheet_in}
use Rattle.checker.proofs.Standing.{Comes, Stands}

-- ---- the start formula that was written is true exactly in the start states
abbrev Made : Sheet → List ℕ → Option Root × List ℕ → Type 0
Made s rest p = IfSome p.0 (λ d. StartsWith s (p.1 ++ rest) d.gates d.literal.0)

made_by : (s : Sheet) (front rest : List ℕ) (places : ℕ) (o : Outcome) → start_in s places ≡ o → Made s rest (started front o)
made_by s front rest places short is = tt
made_by s front rest places (grown x n t) is =
    let starts = starts_from s (replicate places 0) x n t is in
    let pairs : SamePairs t (t ++ rest) n = λ k h. get_or_append_left t rest 0 k (omega (arith, gates_whole s t n starts.gates)) in
    starts_same s t (t ++ rest) n x pairs starts

start_made_lem : (l f : List ℕ) → well_formed (counted l) ≡ true
    → IfSome (write_start l f).0 (λ d. StartsWith (sheet_in l) (write_start l f).1 d.gates d.literal.0)
start_made_lem l f formed =
    cond_both (well_formed (counted l)) (started (counted f) (start_in (sheet_in l) (length (counted f)))) (None, counted f) (Made (sheet_in l) (uncounted f))
    (λ _. made_by (sheet_in l) (counted f) (uncounted f) (length (counted f)) (start_in (sheet_in l) (length (counted f))) refl) (λ _. tt)

-- ---- what is opened stands
abbrev pub OfOpened : List ℕ → ℕ → ℕ → List ℕ → Opened → Type 0
OfOpened l K Q vs p = elim p.0 [ Ok a ↦ Stands l K Q (Comes l K Q) a (lists p.1 vs p.2) 0 | Err e ↦ Unit {0} ]

module _ (l : List ℕ) (K Q : ℕ) (formed : well_formed (counted l) ≡ true) (few : K ≤ 30) (some : 0 < Q) (most : Q ≤ 4294967295) (f vs q : List ℕ) where
  abbrev s : Sheet
  s = sheet_in l

  module _ (d : Root) (f' : List ℕ) (starts : StartsWith s f' d.gates d.literal.0) where
    abbrev list : List ℕ
    list = start_list s (counted f') d.gates d.literal.0

    by_question : (o : Option ℕ) (new : List ℕ) → ◌≡◌ {A = Option ℕ × List ℕ} (o, new) (posed_if (given l f' d.gates) list q)
        → OfOpened l K Q vs (start_asked K Q d f f' q (o, new))
    by_question None new e = tt
    by_question (Some m) new e =
        let size : (m ≡ length list) × (m ≤ 2 ^ 28) = subst (λ (o : Option ℕ). IfSome o (λ m. (m ≡ length list) × (m ≤ 2 ^ 28))) (sym (ap (λ p. p.0) e)) (posed_sized (given l f' d.gates) list q) in
        let is : given l f' d.gates ≡ true = subst (λ (o : Option ℕ). IfSome o (λ m. given l f' d.gates ≡ true)) (sym (ap (λ p. p.0) e)) (posed_given (given l f' d.gates) list q) in
        let told = given_tells l f' d.gates is in
        let front = gates_same s f' (counted f') d.gates (front_pairs f' d.gates told.1) starts.gates in
        let lays = start_lays l f' d.gates q (Some m) new d.literal.0 e in
        let question = start_is_question l f' d.gates q (Some m) new d.literal.0 e front starts.formula in
        record {
          sound = record {
            legal = told.0;
            few_bounds = few;
            few_turns = most;
            bound_limit = refl;
            turn_limit = refl;
            turns = refl;
            left = some;
            bound = omega arith;
            some_size = some_numbers m 0 0 (start_clauses s (counted f') d.gates d.literal.0) size.0;
            few_size = size.1;
            gates = starts.gates;
            room = told.1;
            formula = starts.formula;
            starts = starts;
            older = omega arith;
            fresh = refl;
          };
          region = starters s;
          is = starts_set s f' d.gates d.literal.0 starts;
          asks = (opens, poses m new _ _ _ size.1 question lays);
        }

  by_formula : (o : Option Root) (f' : List ℕ) → IfSome o (λ d. StartsWith s f' d.gates d.literal.0)
      → OfOpened l K Q vs (start_made l K Q f q (o, f'))
  by_formula None f' h = tt
  by_formula (Some d) f' h =
      let p = posed_if (given l f' d.gates) (start_list s (counted f') d.gates d.literal.0) q in
      by_question d f' h p.0 p.1 refl

  made_stands : OfOpened l K Q vs (start_made l K Q f q (write_start l f))
  made_stands = by_formula (write_start l f).0 (write_start l f).1 (start_made_lem l f formed)

pub opened_stands : (l : List ℕ) (K Q : ℕ) (f vs q : List ℕ) → OfOpened l K Q vs (opened l K Q f q)
opened_stands l K Q f vs q =
    cond_both (well_formed (counted l)) _ _ (OfOpened l K Q vs)
    (λ formed.
    cond_both (leb K 30) _ _ (OfOpened l K Q vs)
    (λ few.
    cond_both (ltb 0 Q && leb Q 4294967295) _ _ (OfOpened l K Q vs)
    (λ both.
    let p = and_parts (ltb 0 Q) (leb Q 4294967295) both in
    made_stands l K Q formed (leb-true K 30 few) (ltb-true 0 Q p.0) (leb-true Q 4294967295 p.1) f vs q)
    (λ _. tt))
    (λ _. tt))
    (λ _. tt)
