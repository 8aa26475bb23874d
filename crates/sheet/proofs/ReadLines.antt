-- Steps over the lines of a text. Assumes nothing.
use Rattle.std.proofs.Common.{◌≡◌, ℕ, zero, suc, ◌+◌, ◌-◌, ◌<◌, ◌≤◌, true, ltb, List, [], ◌∷◌, ◌++◌, length, take, drop, set, replicate, Some, Ok, Err, sym, ap, ◌∙◌, subst, arith}
use borrow.Rule.Slice.PartMut.{put_mid}
use Rattle.std.proofs.lemmas.List.{take_rest, drop-replicate}
use Rattle.std.proofs.lemmas.Bool.{cond-true, lt-ltb}
use Rattle.sheet.specs.declared.fault.Fault.{Fault}
use Rattle.sheet.specs.declared.line.Due.{Due}
use Rattle.sheet.specs.Faults.{and_then}
use Rattle.sheet.specs.Parts.{up_to}
use Rattle.sheet.specs.Parse.{line_if, read_pair, read_pairs}

pub line_cut : (e : ℕ) (t : List ℕ) → e ≡ up_to 10 t → e < length t → Some (take (e - 0) t, take (length t - (e + 1)) (drop (e + 1) t)) ≡ line_if t
line_cut e t h l =
    let rest = take_rest t (e + 1) in
    let front : e - 0 ≡ e = omega arith in
    let ends : ltb (up_to 10 t) (length t) ≡ true = subst (λ n. ltb n (length t) ≡ true) h (lt-ltb e (length t) l) in
    let is : line_if t ≡ Some (take (up_to 10 t) t, drop (up_to 10 t + 1) t) = cond-true _ _ _ ends in
    cc

-- one of n lines is read
pub pairs_step : (n : ℕ) (d : Due) (most own : ℕ) (before : List ℕ) (p : ℕ) (t : List ℕ) (a b : ℕ) (rest : List ℕ) → 0 < n → Ok (a, b, rest) ≡ read_pair d most own p t → read_pairs n d most own before p t ≡ read_pairs (n - 1) d most (own + 1) (before ++ (a ∷ b ∷ [])) (p + 1) rest
pairs_step zero d most own before p t a b rest h e = absurd (omega arith)
pairs_step (suc n) d most own before p t a b rest h e =
    let less : suc n - 1 ≡ n = omega arith in
    ap (λ r. and_then r (λ r. read_pairs n d most (own + 1) (before ++ (r.0 ∷ r.1 ∷ [])) (p + 1) r.2)) (sym e)
    ∙ ap (λ k. read_pairs k d most (own + 1) (before ++ (a ∷ b ∷ [])) (p + 1) rest) (sym less)

-- one of n lines is refused
pub pairs_stop : (n : ℕ) (d : Due) (most own : ℕ) (before : List ℕ) (p : ℕ) (t : List ℕ) (e : Fault) → 0 < n → Err e ≡ read_pair d most own p t → read_pairs n d most own before p t ≡ Err e
pairs_stop zero d most own before p t e h q = absurd (omega arith)
pairs_stop (suc n) d most own before p t e h q =
    ap (λ r. and_then r (λ r. read_pairs n d most (own + 1) (before ++ (r.0 ∷ r.1 ∷ [])) (p + 1) r.2)) (sym q)

-- four numbers, and then a list, written over zeros
pub store_all : (n a b d e : ℕ) (ps : List ℕ) → 4 + length ps ≤ n → put_mid 4 (4 + length ps - 4) (set (set (set (set (replicate n 0) 0 a) 1 b) 2 d) 3 e) ps ≡ a ∷ b ∷ d ∷ e ∷ (ps ++ replicate (n - (4 + length ps)) 0)
store_all zero a b d e ps h = absurd (omega arith)
store_all (suc zero) a b d e ps h = absurd (omega arith)
store_all (suc (suc zero)) a b d e ps h = absurd (omega arith)
store_all (suc (suc (suc zero))) a b d e ps h = absurd (omega arith)
store_all (suc (suc (suc (suc m)))) a b d e ps h =
    let k : 4 + length ps - 4 ≡ length ps = omega arith in
    let left : suc (suc (suc (suc m))) - (4 + length ps) ≡ m - length ps = omega arith in
    let zeros : drop (4 + length ps - 4) (replicate {A = ℕ} m 0) ≡ replicate (suc (suc (suc (suc m))) - (4 + length ps)) 0 = rw (k, left) (drop-replicate (length ps) m 0) in
    ap (λ zs. a ∷ b ∷ d ∷ e ∷ (ps ++ zs)) zeros
