-- A question is asked next, or the lists are too short for it. Assumes nothing.
use Rattle.std.proofs.Common.{◌≡◌, ℕ, ◌+◌, ◌*◌, ◌^◌, ◌<◌, ◌≤◌, Bool, true, false, ◌&&◌, leb, List, length, take, IfSome, Some, None, Option, sym, refl, ap, subst, arith, MatchOption}
use Rattle.std.proofs.lemmas.Bool.{and_parts}
use Rattle.lists.specs.Counted.{counted}
use Rattle.sheet.specs.Sheets.{Legal}
use Rattle.procedure.specs.Procedure.{Region as Set, Check, Question, path, inclusion, asks}
use Rattle.formula.specs.Formulas.{Formula, Gates}
use Rattle.formula.specs.Starting.{Starts as StartsWith}
use Rattle.formula.proofs.Valued.{gates_same}
use Rattle.question.specs.Clauses.{path_clauses, inclusion_clauses}
use Rattle.question.specs.Laid.{Lays}
use Rattle.question.specs.Layout.{encode, path_list, inclusion_list, given, posed_if}
use Rattle.question.specs.Questions.{IsQuestion}
use Rattle.question.proofs.Posing.{given_tells}
use Rattle.question.proofs.Promises.{path_lays, path_is_question, inclusion_lays, inclusion_is_question}
use Rattle.formula.specs.declared.root.Root.{Root as Drawing}
use Rattle.checker.specs.declared.Kind.{Kind}
use Rattle.checker.specs.declared.Kind.TheVariants.{Path, Inclusion}
use Rattle.checker.specs.declared.Region.{Region}
use Rattle.checker.specs.declared.Asked.{Asked}
use Rattle.checker.specs.Lists.{Lists, lists, used_part}
use Rattle.checker.specs.Turns.{Turned, asking, asked_if, path_asked, inclusion_asked, with_gates}
use Rattle.checker.proofs.Cutting.{used_is, posed_sized, front_pairs}
use Rattle.checker.specs.Points.{sheet_in, IsSet}
use Rattle.checker.proofs.Standing.{Comes, Known, Poses, Sound, Stands, Ends}

-- what comes of a turn: a question stands, or the check has ended
abbrev pub OfTurn : (l : List ℕ) (K Q : ℕ) → Known l → ℕ → List ℕ → Turned → Type 0
OfTurn l K Q C n xs p = MatchOption p.0 (Stands l K Q C p.1 p.2 n) (λ e. Ends l K Q C e n xs × (p.1.turns ≡ n))

-- limits, counts and formulas of a check that is to ask at the bound k about the region r
pub record Ready (l : List ℕ) (K Q : ℕ) (a : Asked) (k : ℕ) (r : Region) (f : List ℕ) (n : ℕ) : Type 0 where
  pub legal : Legal (counted l)
  pub few_bounds : K ≤ 30
  pub few_turns : Q ≤ 4294967295
  pub bound_limit : a.limits.bound ≡ K
  pub turn_limit : a.limits.turns ≡ Q
  pub turns : a.turns ≡ n
  pub left : n < Q
  pub bound : k ≤ K
  pub gates : Gates (sheet_in l) f r.gates
  pub formula : Formula (sheet_in l) r.gates r.literal.0
  pub starts : StartsWith (sheet_in l) f a.opening.gates a.opening.literal.0
  pub older : a.opening.gates ≤ r.gates
  pub fresh : a.opening.grown ≡ false

-- there was a question before
abbrev pub Before : List ℕ → ℕ → ℕ → ℕ → Type 0
Before l K Q n = (c : Check (sheet_in l)) × (q : Question (sheet_in l)) × Comes l K Q (asks c q) × (c.turns + 1 ≡ n)

-- where something was posed, there was what it is posed of
at_some : (b : Bool) (o : Option ℕ) → b ≡ true → IfSome o (λ m. b ≡ true)
at_some b None e = tt
at_some b (Some m) e = e

pub posed_given : (b : Bool) (q old : List ℕ) → IfSome (posed_if b q old).0 (λ m. b ≡ true)
posed_given true q old = at_some true (posed_if true q old).0 refl
posed_given false q old = tt

pub poses : (m : ℕ) (new : List ℕ) (v a : ℕ) (cs : List (List ℕ)) → m ≤ 2 ^ 28 → IsQuestion (take m new) → Lays (take m new) v a cs → Poses (counted (used_part m new)) v a cs
poses m new v a cs few is lays = subst (λ (q : List ℕ). Poses q v a cs) (sym (used_is m new few)) (record { question = is; lays = lays })

-- a question of clauses has some numbers
pub some_numbers : (m v a : ℕ) (cs : List (List ℕ)) → m ≡ length (encode v a cs) → 0 < m
some_numbers m v a cs is = omega arith

module _ (l : List ℕ) (K Q : ℕ) (C : Known l) (n : ℕ) (xs : List ℕ) (before : Before l K Q n) where
  sound_asking : (kind : Kind) (a : Asked) (k : ℕ) (r : Region) (f vs new : List ℕ) (m : ℕ) → Ready l K Q a k r f n → 0 < m → m ≤ 2 ^ 28
      → 2 * r.gates ≤ length (counted f) → Sound l K Q (asking kind m k r a) (lists f vs new) n
  sound_asking kind a k r f vs new m ready some few room =
      record {
        legal = ready.legal;
        few_bounds = ready.few_bounds;
        few_turns = ready.few_turns;
        bound_limit = ready.bound_limit;
        turn_limit = ready.turn_limit;
        turns = ready.turns;
        left = ready.left;
        bound = ready.bound;
        some_size = some;
        few_size = few;
        gates = ready.gates;
        room = room;
        formula = ready.formula;
        starts = ready.starts;
        older = ready.older;
        fresh = ready.fresh;
      }

  module _ (a : Asked) (k : ℕ) (r : Region) (x : Lists) (ready : Ready l K Q a k r x.formula n) (R : Set (sheet_in l))
      (is : IsSet (sheet_in l) x.formula r.gates r.literal.0 R)
      (comes : C (asks (record { bound = k; region = R; grown = r.grown; turns = n }) path)) where
    abbrev f : List ℕ
    f = x.formula

    abbrev b : Bool
    b = leb k 30 && given l f r.gates

    abbrev list : List ℕ
    list = path_list (sheet_in l) (counted f) r.gates r.literal.0 k

    by_path : (o : Option ℕ) (new : List ℕ) → ◌≡◌ {A = Option ℕ × List ℕ} (o, new) (posed_if b list x.question)
        → OfTurn l K Q C n xs (asked_if o Path k r a (lists f x.values new))
    by_path None new e = (before, ready.turns)
    by_path (Some m) new e =
        let size : (m ≡ length list) × (m ≤ 2 ^ 28) = subst (λ (o : Option ℕ). IfSome o (λ m. (m ≡ length list) × (m ≤ 2 ^ 28))) (sym (ap (λ p. p.0) e)) (posed_sized b list x.question) in
        let yes : b ≡ true = subst (λ (o : Option ℕ). IfSome o (λ m. b ≡ true)) (sym (ap (λ p. p.0) e)) (posed_given b list x.question) in
        let room = (given_tells l f r.gates (and_parts (leb k 30) (given l f r.gates) yes).1).1 in
        let front = gates_same (sheet_in l) f (counted f) r.gates (front_pairs f r.gates room) ready.gates in
        let lays = path_lays l f r.gates x.question (Some m) new r.literal.0 k e in
        let question = path_is_question l f r.gates x.question (Some m) new r.literal.0 k e front ready.formula in
        record {
          sound = sound_asking Path a k r f x.values new m ready
              (some_numbers m 0 0 (path_clauses (sheet_in l) (counted f) r.gates r.literal.0 k) size.0) size.1 room;
          region = R;
          is = is;
          asks = (comes, poses m new _ _ _ size.1 question lays);
        }

    pub path_stands : OfTurn l K Q C n xs (path_asked l a k r x)
    path_stands = by_path (posed_if b list x.question).0 (posed_if b list x.question).1 refl

  module _ (a : Asked) (d : Drawing) (x : Lists) (ready : Ready l K Q a a.bound (with_gates d.gates a.region) x.formula n) (R P : Set (sheet_in l))
      (is : IsSet (sheet_in l) x.formula d.gates a.region.literal.0 R)
      (drawn : IsSet (sheet_in l) x.formula d.gates d.literal.0 P) (formula : Formula (sheet_in l) d.gates d.literal.0)
      (comes : C (asks (record { bound = a.bound; region = R; grown = a.region.grown; turns = n }) (inclusion P))) where
    abbrev g : List ℕ
    g = x.formula

    abbrev test : Bool
    test = given l g d.gates

    abbrev posing : List ℕ
    posing = inclusion_list (sheet_in l) (counted g) d.gates d.literal.0 a.region.literal.0

    by_inclusion : (o : Option ℕ) (new : List ℕ) → ◌≡◌ {A = Option ℕ × List ℕ} (o, new) (posed_if test posing x.question)
        → OfTurn l K Q C n xs (asked_if o (Inclusion d.literal) a.bound (with_gates d.gates a.region) a (lists g x.values new))
    by_inclusion None new e = (before, ready.turns)
    by_inclusion (Some m) new e =
        let size : (m ≡ length posing) × (m ≤ 2 ^ 28) = subst (λ (o : Option ℕ). IfSome o (λ m. (m ≡ length posing) × (m ≤ 2 ^ 28))) (sym (ap (λ p. p.0) e)) (posed_sized test posing x.question) in
        let yes : test ≡ true = subst (λ (o : Option ℕ). IfSome o (λ m. test ≡ true)) (sym (ap (λ p. p.0) e)) (posed_given test posing x.question) in
        let room = (given_tells l g d.gates yes).1 in
        let front = gates_same (sheet_in l) g (counted g) d.gates (front_pairs g d.gates room) ready.gates in
        let lays = inclusion_lays l g d.gates x.question (Some m) new d.literal.0 a.region.literal.0 e in
        let question = inclusion_is_question l g d.gates x.question (Some m) new d.literal.0 a.region.literal.0 e front formula ready.formula in
        record {
          sound = sound_asking (Inclusion d.literal) a a.bound (with_gates d.gates a.region) g x.values new m ready
              (some_numbers m 0 0 (inclusion_clauses (sheet_in l) (counted g) d.gates d.literal.0 a.region.literal.0) size.0) size.1 room;
          region = R;
          is = is;
          asks = (record { set = P; is = drawn; formula = formula; comes = comes }, poses m new _ _ _ size.1 question lays);
        }

    pub inclusion_stands : OfTurn l K Q C n xs (inclusion_asked l a d x)
    inclusion_stands = by_inclusion (posed_if test posing x.question).0 (posed_if test posing x.question).1 refl
