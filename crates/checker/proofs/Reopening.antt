-- A raised bound begins with the formula list that opening wrote. Assumes nothing.
use Rattle.std.proofs.Common.{◌≡◌, ℕ, zero, suc, ◌+◌, ◌-◌, ◌*◌, ◌^◌, ◌<◌, ◌≤◌, Bool, true, ◌&&◌, eqb, ltb, leb, List, [], ◌++◌, length, get_or, take, drop, replicate, IfSome, IfNone, Some, None, Ok, Err, Option, Result, sym, refl, ap, ◌∙◌, subst, ⊎_elim, arith, length-take}
use lib.ListN.{length-replicate}
use Rattle.std.proofs.lemmas.List.{get_or-take, get_or-drop, get_or-replicate, get_or_append_left, get_or-append_right, get_or_past, ext_get_or, drop_at, drop_all, append-nil, length-append, length-drop}
use Rattle.std.proofs.lemmas.Bool.{cond_both, cases_lt, and_parts}
use Rattle.lists.specs.Counted.{counted, uncounted}
use Rattle.lists.proofs.Taken.{take_refronted}
use Rattle.sheet.specs.Render.{well_formed}
use Rattle.sheet.specs.Sheets.{Sheet, Start, set, unset}
use Rattle.sheet.specs.declared.fault.Fault.{Fault}
use Rattle.formula.specs.Built.{started, write_start}
use Rattle.formula.specs.Conjunction.{Outcome, grown, short, disjoin}
use Rattle.formula.specs.Formulas.{width}
use Rattle.formula.specs.Starting.{start_literal, joined, onward, join_starts, start_in}
use Rattle.formula.specs.declared.root.Root.{Root}
use Rattle.formula.proofs.Starts.{starts_from}
use Rattle.question.specs.Layout.{start_list, path_list, inclusion_list, given, posed_if}
use Rattle.question.proofs.Posing.{given_tells}
use Rattle.question.proofs.Promises.{gates_whole}
use Rattle.answer.specs.Assignments.{judged}
use Rattle.answer.specs.Runs.{checked}
use Rattle.interpolant.specs.Drawing.{Adds, Found, interpolation}
use Rattle.interpolant.specs.Parting.{width_in}
use Rattle.interpolant.specs.declared.draw.Short.{Short}
use Rattle.interpolant.proofs.Adding.{Added, adds_refl, added_trans, and_added, or_added, adds_gates}
use Rattle.checker.specs.declared.Kind.{Kind}
use Rattle.checker.specs.declared.Kind.TheVariants.{Start as AtStart, Path, Inclusion}
use Rattle.checker.specs.declared.Answer.{Answer}
use Rattle.checker.specs.declared.Answer.TheVariants.{Assignment, Refutation}
use Rattle.checker.specs.declared.End.{End}
use Rattle.checker.specs.declared.Region.{Region}
use Rattle.checker.specs.declared.Asked.{Asked}
use Rattle.checker.specs.declared.Weighed.{Weighed}
use Rattle.checker.specs.declared.Moved.{Moved}
use Rattle.checker.specs.declared.Refused.{Refused}
use Rattle.checker.specs.Lists.{Lists, lists, restored, used_part, said_part}
use Rattle.checker.specs.Opening.{Opened, start_asked, start_made, opened}
use Rattle.checker.specs.Turns.{Turned, asked_if, path_asked, inclusion_asked, with_gates, drawn_if, larger, grown_if, next_bound, counting, unless_spent, turn_on, turned, settled, moved_by}
use Rattle.checker.specs.Calls.{fetched, showing, weighing, weighed}
use Rattle.checker.specs.Guarantees.{GoesBack}
use Rattle.checker.specs.Points.{sheet_in}
use Rattle.checker.specs.Series.{Stage, at_asked, at_weighed, at_ended, reached, Series, opens, fetches, show_refused, shows, weigh_refused, weighs, takes, sets_aside, read_off_refused, reads_off}
use Rattle.checker.proofs.Holding.{holds}
use Rattle.checker.proofs.Posed.{posed_given}
use Rattle.checker.proofs.Standing.{Comes, Stands}

-- ---- over plain lists, of which the first N places count
module _ (N : ℕ) where
  -- the first n gates, zeros behind them, and what does not count
  abbrev back : ℕ → List ℕ → List ℕ
  back n f = (take (2 * n) (take N f) ++ replicate (length (take N f) - 2 * n) 0) ++ drop N f

  drop_refronted : (ys xs : List ℕ) → length ys ≡ length (take N xs) → drop N (ys ++ drop N xs) ≡ drop N xs
  drop_refronted ys xs same =
      ⊎_elim
      (λ (long : N < length xs). drop_at ys (drop N xs) N (omega (arith, length-take N xs)))
      (λ (few : length xs ≤ N).
      let none : drop N xs ≡ [] = drop_all N xs few in
      let whole : drop N (ys ++ drop N xs) ≡ drop N ys = ap (λ (zs : List ℕ). drop N (ys ++ zs)) none ∙ ap (drop N) (append-nil ys) in
      whole ∙ drop_all N ys (omega (arith, length-take N xs)) ∙ sym none)
      (cases_lt N (length xs))

  -- gates that were added behind are taken away again
  back_same : (g n n' : ℕ) (f f' : List ℕ) → Adds f n f' n' → g ≤ n → 2 * n' ≤ length (take N f') → back g f' ≡ back g f
  back_same g n n' f f' adds older room =
      let few : length (take N f') ≤ N = omega (arith, length-take N f') in
      let long : length (take N f') ≡ length (take N f) = omega (arith, length-take N f', length-take N f, adds.size) in
      let front : take (2 * g) (take N f') ≡ take (2 * g) (take N f) =
      ext_get_or 0 (take (2 * g) (take N f')) (take (2 * g) (take N f)) (omega (arith, length-take (2 * g) (take N f'), length-take (2 * g) (take N f)))
      (λ i h.
      let low : i < 2 * g = omega (arith, length-take (2 * g) (take N f')) in
      let below : i < N = omega (arith, length-take (2 * g) (take N f')) in
      get_or-take (2 * g) (take N f') i 0 low ∙ get_or-take N f' i 0 below ∙ adds.before i (omega arith)
      ∙ sym (get_or-take N f i 0 below) ∙ sym (get_or-take (2 * g) (take N f) i 0 low)) in
      let rest : drop N f' ≡ drop N f =
      ext_get_or 0 (drop N f') (drop N f) (omega (arith, length-drop N f', length-drop N f, adds.size))
      (λ i h. get_or-drop N f' i 0 ∙ adds.behind (N + i) (omega arith) ∙ sym (get_or-drop N f i 0)) in
      (λ k. (front k ++ replicate (long k - 2 * g) 0) ++ rest k)

  -- a list whose places behind n gates are 0 is as it would be restored
  back_zeros : (n : ℕ) (t f : List ℕ) → length t ≡ length (take N f) → 2 * n ≤ length t → ((i : ℕ) → 2 * n ≤ i → get_or t i 0 ≡ 0)
      → back n (t ++ drop N f) ≡ t ++ drop N f
  back_zeros n t f same room zeros =
      let front : take N (t ++ drop N f) ≡ t = take_refronted t f N same in
      let rest : drop N (t ++ drop N f) ≡ drop N f = drop_refronted t f same in
      let cut : List ℕ = take (2 * n) t in
      let fill : List ℕ = replicate (length t - 2 * n) 0 in
      let size : length cut ≡ 2 * n = omega (arith, length-take (2 * n) t) in
      let filled : length fill ≡ length t - 2 * n = length-replicate {A = ℕ} (length t - 2 * n) 0 in
      let whole : cut ++ fill ≡ t =
      ext_get_or 0 (cut ++ fill) t (omega (arith, length-append cut fill))
      (λ i h. ⊎_elim
      (λ (low : i < 2 * n). get_or_append_left cut fill 0 i (omega arith) ∙ get_or-take (2 * n) t i 0 low)
      (λ (high : 2 * n ≤ i).
      get_or-append_right cut fill (2 * n) i 0 size high ∙ get_or-replicate (length t - 2 * n) (i - 2 * n) 0 0 (omega (arith, length-append cut fill)) ∙ sym (zeros i high))
      (cases_lt i (2 * n))) in
      (λ k. (take (2 * n) (front k) ++ replicate (length (front k) - 2 * n) 0) ++ rest k) ∙ ap (λ (ys : List ℕ). ys ++ drop N f) whole

-- ---- the start formula, in zeros
joined_added : (s : Sheet) (i : ℕ) (b : Start) (x n : ℕ) (f : List ℕ) → Added f n (joined s i b x n f)
joined_added s i (set b) x n f = and_added (width s) n f x (start_literal s i b)
joined_added s i unset x n f = adds_refl f n

onward_added : (f : List ℕ) (n : ℕ) (o : Outcome) (more : ℕ → ℕ → List ℕ → Outcome) → Added f n o → ((x k : ℕ) (g : List ℕ) → Added g k (more x k g)) → Added f n (onward o more)
onward_added f n (grown y k g) more h rest = added_trans f g n k h (more y k g) (rest y k g)
onward_added f n short more h rest = tt

starts_added : (s : Sheet) (m i x n : ℕ) (f : List ℕ) → Added f n (join_starts s m i x n f)
starts_added s zero i x n f = adds_refl f n
starts_added s (suc m) i x n f =
    onward_added f n (joined s i (s.start i) x n f) (λ x n f. join_starts s m (i + 1) x n f) (joined_added s i (s.start i) x n f) (λ y k g. starts_added s m (i + 1) y k g)

zero_places : (places i : ℕ) → ◌≡◌ {A = ℕ} (get_or (replicate places 0) i 0) 0
zero_places places i =
    ⊎_elim
    (λ (low : i < places). get_or-replicate places i 0 0 low)
    (λ (high : places ≤ i). get_or_past (replicate places 0) i 0 (omega (arith, length-replicate {A = ℕ} places 0)))
    (cases_lt i places)

abbrev Restores : List ℕ → Option Root × List ℕ → Type 0
Restores f p = IfSome p.0 (λ d. restored d.gates (p.1 ++ uncounted f) ≡ p.1 ++ uncounted f)

made_restores : (s : Sheet) (f : List ℕ) (o : Outcome) → start_in s (length (counted f)) ≡ o → Restores f (started (counted f) o)
made_restores s f short is = tt
made_restores s f (grown x n t) is =
    let zeros : List ℕ = replicate (length (counted f)) 0 in
    let added : Adds zeros 0 t n = subst (Added zeros 0) is (starts_added s s.latches 0 1 0 zeros) in
    let starts = starts_from s zeros x n t is in
    back_zeros (2 ^ 28) n t f (added.size ∙ length-replicate {A = ℕ} (length (counted f)) 0) (gates_whole s t n starts.gates)
    (λ i h. added.behind i h ∙ zero_places (length (counted f)) i)

start_restores : (l f : List ℕ) → IfSome (write_start l f).0 (λ d. restored d.gates (write_start l f).1 ≡ (write_start l f).1)
start_restores l f =
    cond_both (well_formed (counted l)) (started (counted f) (start_in (sheet_in l) (length (counted f)))) (None, counted f) (Restores f)
    (λ _. made_restores (sheet_in l) f (start_in (sheet_in l) (length (counted f))) refl) (λ _. tt)

-- ---- what a turn leaves goes back to the same list
abbrev Backs : Region → List ℕ → Turned → Type 0
Backs o f₀ p = IfNone p.0 ((p.1.opening ≡ o) × (restored o.gates p.2.formula ≡ f₀))

module _ (l : List ℕ) (o : Region) (f₀ : List ℕ) where
  asked_backs : (r : Option ℕ) (kind : Kind) (k : ℕ) (region : Region) (a : Asked) (x : Lists) → a.opening ≡ o → restored o.gates x.formula ≡ f₀
      → Backs o f₀ (asked_if r kind k region a x)
  asked_backs None kind k region a x is h = tt
  asked_backs (Some n) kind k region a x is h = (is, h)

  path_backs : (a : Asked) (k : ℕ) (r : Region) (x : Lists) → a.opening ≡ o → restored o.gates x.formula ≡ f₀ → Backs o f₀ (path_asked l a k r x)
  path_backs a k r x is h =
      let p = posed_if (leb k 30 && given l x.formula r.gates) (path_list (sheet_in l) (counted x.formula) r.gates r.literal.0 k) x.question in
      asked_backs p.0 Path k r a (lists x.formula x.values p.1) is h

  -- with gates added to a list f of n gates; they lie in what counts, if the question is posed
  path_grown : (a : Asked) (k : ℕ) (r : Region) (x : Lists) (f : List ℕ) (n : ℕ) → a.opening ≡ o → restored o.gates f ≡ f₀
      → Adds f n x.formula r.gates → o.gates ≤ n → Backs o f₀ (path_asked l a k r x)
  path_grown a k r x f n is h adds older =
      let b : Bool = leb k 30 && given l x.formula r.gates in
      let list : List ℕ = path_list (sheet_in l) (counted x.formula) r.gates r.literal.0 k in
      let p = posed_if b list x.question in
      by p.0 p.1 (posed_given b list x.question)
    where
      by : (q : Option ℕ) (new : List ℕ) → IfSome q (λ m. (leb k 30 && given l x.formula r.gates) ≡ true)
          → Backs o f₀ (asked_if q Path k r a (lists x.formula x.values new))
      by None new _ = tt
      by (Some m) new told =
          let room = (given_tells l x.formula r.gates (and_parts (leb k 30) (given l x.formula r.gates) told).1).1 in
          (is, back_same (2 ^ 28) o.gates n r.gates f x.formula adds older room ∙ h)

  inclusion_grown : (a : Asked) (d : Root) (x : Lists) (f : List ℕ) (n : ℕ) → a.opening ≡ o → restored o.gates f ≡ f₀
      → Adds f n x.formula d.gates → o.gates ≤ n → Backs o f₀ (inclusion_asked l a d x)
  inclusion_grown a d x f n is h adds older =
      let b : Bool = given l x.formula d.gates in
      let list : List ℕ = inclusion_list (sheet_in l) (counted x.formula) d.gates d.literal.0 a.region.literal.0 in
      let p = posed_if b list x.question in
      by p.0 p.1 (posed_given b list x.question)
    where
      by : (q : Option ℕ) (new : List ℕ) → IfSome q (λ m. given l x.formula d.gates ≡ true)
          → Backs o f₀ (asked_if q (Inclusion d.literal) a.bound (with_gates d.gates a.region) a (lists x.formula x.values new))
      by None new _ = tt
      by (Some m) new told =
          (is, back_same (2 ^ 28) o.gates n d.gates f x.formula adds older (given_tells l x.formula d.gates told).1 ∙ h)

  unspent_backs : (a : Asked) (x : Lists) (more : Turned) → Backs o f₀ more → Backs o f₀ (unless_spent a x more)
  unspent_backs a x more h = cond_both (leb a.limits.turns a.turns) _ _ (Backs o f₀) (λ _. tt) (λ _. h)

module _ (l : List ℕ) (K Q : ℕ) (a : Asked) (x : Lists) (n : ℕ) (st : Stands l K Q (Comes l K Q) a x n) (f₀ : List ℕ)
    (h : restored a.opening.gates x.formula ≡ f₀) (again : restored a.opening.gates f₀ ≡ f₀) where
  abbrev b : Asked
  b = counting a

  drawn_backs : (t : List ℕ) (o : Result Root Short) (f' vs' : List ℕ)
      → ◌≡◌ {A = Found} (o, f', vs') (interpolation (counted l) (counted (used_part a.size x.question)) (counted t) x.formula a.region.gates x.values)
      → Backs a.opening f₀ (drawn_if o l b (lists f' vs' x.question))
  drawn_backs t (Err e) f' vs' is = tt
  drawn_backs t (Ok d) f' vs' is =
      inclusion_grown l a.opening f₀ b d (lists f' vs' x.question) x.formula a.region.gates refl h
      (adds_gates (counted l) (counted (used_part a.size x.question)) (counted t) x.formula a.region.gates x.values f' vs' (Ok d) is) st.sound.older

  grown_backs : (o : Outcome) → Added x.formula a.region.gates o → Backs a.opening f₀ (grown_if o l b x)
  grown_backs short adds = tt
  grown_backs (grown y m f') adds =
      path_grown l a.opening f₀ b a.bound (larger y m) (lists f' x.values x.question) x.formula a.region.gates refl h adds st.sound.older

  turn_backs : (kind : Kind) (answer : Answer) (t : List ℕ) → Backs a.opening f₀ (turn_on kind answer l b t x)
  turn_backs AtStart Assignment t = tt
  turn_backs AtStart Refutation t = unspent_backs l a.opening f₀ b x _ (path_backs l a.opening f₀ b a.bound a.region x refl h)
  turn_backs Path Assignment t =
      cond_both a.region.grown _ _ (Backs a.opening f₀)
      (λ _.
      cond_both (eqb a.bound a.limits.bound) _ _ (Backs a.opening f₀) (λ _. tt)
      (λ _. unspent_backs l a.opening f₀ b x _
      (path_backs l a.opening f₀ b (next_bound a.bound a.limits.bound) a.opening (lists (restored a.opening.gates x.formula) x.values x.question) refl
      (ap (restored a.opening.gates) h ∙ again))))
      (λ _. tt)
  turn_backs Path Refutation t =
      let p : Found = interpolation (counted l) (counted (used_part a.size x.question)) (counted t) x.formula a.region.gates x.values in
      unspent_backs l a.opening f₀ b x _ (drawn_backs t p.0 p.1 p.2 refl)
  turn_backs (Inclusion p) Assignment t =
      unspent_backs l a.opening f₀ b x _
      (grown_backs (disjoin (width_in (counted l)) a.region.gates x.formula a.region.literal.0 p.0)
      (or_added (width_in (counted l)) a.region.gates x.formula a.region.literal.0 p.0))
  turn_backs (Inclusion p) Refutation t = tt

-- ---- along every series
pub record Back (l : List ℕ) (K Q : ℕ) (a : Asked) (f : List ℕ) : Type 0 where
  pub goes : GoesBack l K Q a f
  pub again : restored a.opening.gates goes.formula ≡ goes.formula

abbrev StageBack : List ℕ → ℕ → ℕ → Stage → Lists → Type 0
StageBack l K Q (at_asked a) x = Back l K Q a x.formula
StageBack l K Q (at_weighed d said) x = Back l K Q d.asked x.formula
StageBack l K Q (at_ended e xs) x = Unit {0}

abbrev OpenedBack : Opened → Type 0
OpenedBack p = elim p.0 [ Ok a ↦ ((a.opening ≡ a.region) × (restored a.opening.gates p.1 ≡ p.1)) | Err e ↦ Unit {0} ]

asked_back : (K Q : ℕ) (d : Root) (f f' q : List ℕ) → restored d.gates f' ≡ f' → (o : Option ℕ) (new : List ℕ) → OpenedBack (start_asked K Q d f f' q (o, new))
asked_back K Q d f f' q h None new = tt
asked_back K Q d f f' q h (Some m) new = (refl, h)

made_back : (l : List ℕ) (K Q : ℕ) (f q : List ℕ) (o : Option Root) (f' : List ℕ) → IfSome o (λ d. restored d.gates f' ≡ f') → OpenedBack (start_made l K Q f q (o, f'))
made_back l K Q f q None f' h = tt
made_back l K Q f q (Some d) f' h =
    let p = posed_if (given l f' d.gates) (start_list (sheet_in l) (counted f') d.gates d.literal.0) q in
    asked_back K Q d f f' q h p.0 p.1

opened_back : (l : List ℕ) (K Q : ℕ) (f q : List ℕ) → OpenedBack (opened l K Q f q)
opened_back l K Q f q =
    cond_both (well_formed (counted l)) _ _ OpenedBack
    (λ _.
    cond_both (leb K 30) _ _ OpenedBack
    (λ _. cond_both (ltb 0 Q && leb Q 4294967295) _ _ OpenedBack (λ _. made_back l K Q f q (write_start l f).0 (write_start l f).1 (start_restores l f)) (λ _. tt))
    (λ _. tt))
    (λ _. tt)

-- the same opening, from another list
moved_back : (l : List ℕ) (K Q : ℕ) (a b : Asked) (f f' : List ℕ) (k : Back l K Q a f) → b.opening ≡ a.opening → restored a.opening.gates f' ≡ k.goes.formula → Back l K Q b f'
moved_back l K Q a b f f' k is h =
    let goes = k.goes in
    record {
      goes = record {
        lent_formula = goes.lent_formula;
        lent_question = goes.lent_question;
        asked = goes.asked;
        formula = goes.formula;
        question = goes.question;
        opens = goes.opens;
        region = is ∙ goes.region;
        restores = ap (λ (o : Region). restored o.gates f') is ∙ h;
      };
      again = ap (λ (o : Region). restored o.gates goes.formula) is ∙ k.again;
    }

module _ (l : List ℕ) (K Q : ℕ) (a : Asked) (x : Lists) (n : ℕ) (st : Stands l K Q (Comes l K Q) a x n) (k : Back l K Q a x.formula) where
  settled_back : (xs : List ℕ) (o : Option End) (b : Asked) (x' : Lists) → Backs a.opening k.goes.formula (o, b, x') → StageBack l K Q (reached (settled o b) xs) x'
  settled_back xs None b x' h = moved_back l K Q a b x.formula x'.formula k h.0 h.1
  settled_back xs (Some e) b x' h = tt

  turned_back : (xs : List ℕ) (answer : Answer) (t : List ℕ) → (let p = moved_by answer l a t x in StageBack l K Q (reached p.0 xs) p.1)
  turned_back xs answer t =
      let p = turned answer l a t x in
      settled_back xs p.0 p.1 p.2 (turn_backs l K Q a x n st k.goes.formula k.goes.restores k.again a.kind answer t)

  abbrev ShownBack : List ℕ → Result Moved Refused × Lists → Type 0
  ShownBack xs p = elim p.0 [ Ok m ↦ StageBack l K Q (reached m xs) p.1 | Err r ↦ Back l K Q r.asked p.1.formula ]

  showing_back : (xs answer : List ℕ) (o : Result (Unit {0}) Fault) → ShownBack xs (showing o l a answer x)
  showing_back xs answer (Ok _) = turned_back xs Assignment answer
  showing_back xs answer (Err e) = k

  abbrev WeighedBack : Result Weighed Refused × List ℕ → Type 0
  WeighedBack p = elim p.0 [ Ok d ↦ Back l K Q d.asked x.formula | Err r ↦ Back l K Q r.asked x.formula ]

  weighing_back : (w : List ℕ) (o : Result (Unit {0}) Fault) → WeighedBack (weighing o a, w)
  weighing_back w (Ok _) = k
  weighing_back w (Err e) = k

stage_back : {l : List ℕ} {K Q : ℕ} {g : Stage} {x : Lists} {n : ℕ} → Series l K Q g x n → StageBack l K Q g x
stage_back {l} {K} {Q} (opens f vs q a f' q' e) =
    let h = subst OpenedBack e (opened_back l K Q f q) in
    record {
      goes = record {
        lent_formula = f;
        lent_question = q;
        asked = a;
        formula = f';
        question = q';
        opens = e;
        region = h.0;
        restores = h.1;
      };
      again = h.1;
    }
stage_back (fetches a x n question s e) = stage_back s
stage_back {l} {K} {Q} (show_refused a x n answer r x' s e) =
    subst (ShownBack l K Q a x n (holds s) (stage_back s) (counted answer)) e
    (showing_back l K Q a x n (holds s) (stage_back s) (counted answer) answer (judged (counted (fetched a x.question)) (counted answer)))
stage_back {l} {K} {Q} (shows a x n answer m x' s e) =
    subst (ShownBack l K Q a x n (holds s) (stage_back s) (counted answer)) e
    (showing_back l K Q a x n (holds s) (stage_back s) (counted answer) answer (judged (counted (fetched a x.question)) (counted answer)))
stage_back {l} {K} {Q} (weigh_refused a x n t w r w' s e) =
    subst (WeighedBack l K Q a x n (holds s) (stage_back s)) e (weighing_back l K Q a x n (holds s) (stage_back s) (weighed a x.question t w).1 (checked (counted (fetched a x.question)) (counted t) (counted w)).0)
stage_back {l} {K} {Q} (weighs a x n t w d w' s e) =
    subst (WeighedBack l K Q a x n (holds s) (stage_back s)) e (weighing_back l K Q a x n (holds s) (stage_back s) (weighed a x.question t w).1 (checked (counted (fetched a x.question)) (counted t) (counted w)).0)
stage_back {l} {K} {Q} (takes d x n t m x' s e) =
    subst (λ (p : Moved × Lists). StageBack l K Q (reached p.0 []) p.1) e (turned_back l K Q d.asked x n (holds s).0 (stage_back s) [] Refutation (said_part t))
stage_back {l} {K} {Q} (sets_aside d said x n a s e) = subst (λ (b : Asked). Back l K Q b x.formula) e (stage_back s)
stage_back (read_off_refused e xs x n lent run f run' s is) = tt
stage_back (reads_off e xs x n lent run r run' s is) = tt

pub goes_back : (l : List ℕ) (K Q : ℕ) (a : Asked) (x : Lists) (n : ℕ) → Series l K Q (at_asked a) x n → GoesBack l K Q a x.formula
goes_back l K Q a x n s = (stage_back s).goes
