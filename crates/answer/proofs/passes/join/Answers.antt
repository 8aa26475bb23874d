use Rattle.std.proofs.Common.{rules, ◌≡◌, ◌&&◌, ◌⊎◌, true, false, [], get_or, sym, refl, ap, ◌∙◌, inl, inr, arith}
use Rattle.std.proofs.lemmas.Bool.{le-leb, lt-leb}
use Rattle.std.proofs.lemmas.List.{nil_from_length}
use Rattle.answer.proofs.Passing.{went, goes, tied, turn, next_stops, first_stops, second_stops, both_end}
use Rattle.answer.proofs.passes.join.Goals.{in_default, in_default-2, then-tally, else-tally}
use Rattle.answer.proofs.passes.join.Goals as goal

pub loop-first-preserved-in_ok-tally : goal.loop-first-preserved-in_ok-tally
loop-first-preserved-in_ok-tally c =
    let f = c.loop-first.first.now in
    let s = c.loop-first.second.now in
    let told = c.in_ok-tally.ensures in
    record {
      within = told.fits c.loop-first.invariant.within;
      ends = λ v n h. c.loop-first.invariant.ends v n (turn _ _ _ _ v n true false f s _ _ (search rules) (search rules) (le-leb (get_or f 0 0) (get_or s 0 0) (omega arith)) (lt-leb (get_or s 0 0) (get_or f 0 0) (omega arith)) (went f _ refl) refl (get_or f 0 0) (omega arith) told h);
    }

pub loop-first-preserved : goal.loop-first-preserved
loop-first-preserved c =
    let f = c.loop-first.first.now in
    let s = c.loop-first.second.now in
    let told = c.in_ok-tally-2.ensures in
    record {
      within = told.fits c.loop-first.invariant.within;
      ends = λ v n h. c.loop-first.invariant.ends v n (turn _ _ _ _ v n _ true f s _ _ (search rules) (search rules) (tied (get_or f 0 0) (get_or s 0 0) (omega arith)) (le-leb (get_or s 0 0) (get_or f 0 0) (omega arith)) (goes _ _ f _ c.from.ensures refl) (went s _ refl) (get_or s 0 0) (omega arith) told h);
    }

pub returns-in_err-tally : goal.returns-in_err-tally
returns-in_err-tally c =
    let f = c.loop-first.first.now in
    let s = c.loop-first.second.now in
    let h = c.loop-first.invariant.ends _ _ (next_stops _ _ c.keep.new.free f s _ (search rules) (search rules) (get_or f 0 0) (omega arith) c.in_err-tally.ensures c.from_residual.ensures) in
    record { says_how_many = h.0; writes = h.1 }

pub returns-in_err-tally-2 : goal.returns-in_err-tally-2
returns-in_err-tally-2 c =
    let f = c.loop-first.first.now in
    let s = c.loop-first.second.now in
    let h = c.loop-first.invariant.ends _ _ (next_stops _ _ c.keep-else-x-y.new.free f s _ (search rules) (search rules) (get_or s 0 0) (omega arith) c.in_err-tally-2.ensures c.from_residual-in_err-tally-2.ensures) in
    record { says_how_many = h.0; writes = h.1 }

pub returns-in_err-tally-3 : goal.returns-in_err-tally-3
returns-in_err-tally-3 c =
    let f = c.loop-first.first.now in
    let s = c.loop-first.second.now in
    let one : (f ≡ []) ⊎ (s ≡ []) = elim c.if-first-lt1.branch [ in_default w ↦ inl (nil_from_length f (omega arith)) | in_default-2 w ↦ inr (nil_from_length s (search rules)) ] in
    let h = c.loop-first.invariant.ends _ _ (first_stops _ _ c.append.new.free f s _ one c.append.new.free c.in_err-tally-3.ensures c.from_residual-in_err-tally-3.ensures) in
    record { says_how_many = h.0; writes = h.1 }

pub returns-in_err-tally-4 : goal.returns-in_err-tally-4
returns-in_err-tally-4 c =
    let f = c.loop-first.first.now in
    let s = c.loop-first.second.now in
    let one : (f ≡ []) ⊎ (s ≡ []) = elim c.if-first-lt1.branch [ in_default w ↦ inl (nil_from_length f (omega arith)) | in_default-2 w ↦ inr (nil_from_length s (search rules)) ] in
    let h = c.loop-first.invariant.ends _ _ (second_stops _ _ c.append-2.new.free f s _ one _ _ c.in_ok-tally-3.ensures c.append-2.new.free c.in_err-tally-4.ensures c.from_residual-in_err-tally-4.ensures) in
    record { says_how_many = h.0; writes = h.1 }

pub returns : goal.returns
returns c =
    let f = c.loop-first.first.now in
    let s = c.loop-first.second.now in
    let one : (f ≡ []) ⊎ (s ≡ []) = elim c.if-first-lt1.branch [ in_default w ↦ inl (nil_from_length f (omega arith)) | in_default-2 w ↦ inr (nil_from_length s (search rules)) ] in
    let t = c.in_ok-tally-4.tally in
    let both : c.if-tally.then_some ≡ (t.plain && t.negated) =
    elim c.if-tally.branch [ then-tally w ↦ w.then_some-is ∙ ap (λ b. b && t.negated) (sym w.if-tally.true) | else-tally w ↦ w.then_some-is ∙ w.if-tally.false ∙ ap (λ b. b && t.negated) (sym w.if-tally.false) ] in
    let h = c.loop-first.invariant.ends _ _ (both_end _ _ c.append-2.new.free f s _ one _ _ c.in_ok-tally-3.ensures t c.in_ok-tally-4.ensures c.loop-first.invariant.within _ both c.then_some.ensures) in
    record { says_how_many = h.0; writes = h.1 }
