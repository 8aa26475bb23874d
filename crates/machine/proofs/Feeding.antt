-- The lists that a step works on: where inputs and state are written, and where they count whole. Assumes nothing.
use Rattle.std.proofs.Common.{◌≡◌, ℕ, ◌+◌, ◌-◌, ◌^◌, ◌≤◌, false, List, [], ◌∷◌, ◌++◌, length, take, drop, replicate, refl, ap, ◌∙◌, arith}
use borrow.Rule.Slice.PartMut.{put_mid}
use Rattle.std.proofs.lemmas.List.{append_assoc, append-nil, drop-drop, take_all, drop_all, take-replicate, drop-replicate, length-append, length-replicate}
use Rattle.std.proofs.lemmas.Slice.{take-put_mid, drop-put_mid}
use Rattle.lists.specs.Counted.{counted, uncounted}
use Rattle.sheet.specs.Sheets.{Legal, input_count, latch_count, gate_count, gate_node, gate_pairs}
use Rattle.signal.specs.Circuit.{Ops, gates_of}
use Rattle.machine.specs.Simulate.{fed_signals, node_signals}
use Rattle.machine.proofs.Operands.{operands_length}

-- one list written behind the first place, and another behind it
pub put_both : {X : Type 0} (xs us vs : List X) → 1 + length us + length vs ≤ length xs
    → put_mid (1 + length us) (1 + length us + length vs - (1 + length us)) (put_mid 1 (1 + length us - 1) xs us) vs
    ≡ take 1 xs ++ (us ++ (vs ++ drop (1 + length us + length vs) xs))
put_both {X} xs us vs room =
    let a : ℕ = 1 + length us in
    let k : ℕ = a + length vs - a in
    let once : List X = put_mid 1 (a - 1) xs us in
    let front : take a once ≡ take 1 xs ++ us = take-put_mid 1 (a - 1) xs us a refl (omega arith) in
    let left : drop a once ≡ drop a xs = drop-put_mid 1 (a - 1) xs us a (omega arith) (omega arith) (omega arith) in
    let past : a + k ≡ a + length vs = omega arith in
    let rest : drop k (drop a once) ≡ drop (a + length vs) xs = ap (λ zs. drop k zs) left ∙ drop-drop k a xs ∙ ap (λ n. drop n xs) past in
    ap (λ zs. zs ++ (vs ++ drop k (drop a once))) front
    ∙ ap (λ zs. (take 1 xs ++ us) ++ (vs ++ zs)) rest
    ∙ append_assoc (take 1 xs) us (vs ++ drop (a + length vs) xs)

-- a list that is not longer than the limit counts whole
pub whole : {X : Type 0} (xs : List X) → length xs ≤ 2 ^ 28 → (counted xs ≡ xs) × (uncounted xs ≡ [])
whole xs few = (take_all (2 ^ 28) xs few, drop_all (2 ^ 28) xs few)

-- the nodes that the code feeds
pub fed_by : {S : Type 0} (o : Ops S) (l : List ℕ) (inputs state nodes : List S) (n : ℕ)
    → n ≡ 1 + length inputs + length state + gate_count l → n ≤ 249 → nodes ≡ take n (replicate 249 (o.known false))
    → take 1 nodes ++ (inputs ++ (state ++ drop (1 + length inputs + length state) nodes)) ≡ fed_signals o l inputs state
fed_by {S} o l inputs state nodes n size few blank =
    let zero : S = o.known false in
    let first : ℕ = 1 + length inputs + length state in
    let all : nodes ≡ replicate n zero = blank ∙ take-replicate n 249 zero few in
    let one : 1 ≤ n = omega arith in
    let left : n - first ≡ gate_count l = omega arith in
    let front : take 1 nodes ≡ zero ∷ [] = ap (λ zs. take 1 zs) all ∙ take-replicate 1 n zero one in
    let rest : drop first nodes ≡ replicate (gate_count l) zero =
    ap (λ zs. drop first zs) all ∙ drop-replicate first n zero ∙ ap (λ k. replicate k zero) left in
    rw (front, rest)

-- running the gates on them
pub run_by : {S : Type 0} (o : Ops S) (l pairs : List ℕ) (inputs state nodes after : List S) (first : ℕ)
    → Legal l → length inputs ≡ input_count l → length state ≡ latch_count l → first ≡ gate_node l 0
    → pairs ≡ gate_pairs l → nodes ≡ fed_signals o l inputs state
    → after ≡ gates_of o (counted pairs) first (counted nodes) ++ uncounted nodes → after ≡ node_signals o l inputs state
run_by o l pairs inputs state nodes after first legal many wide at ps fed runs =
    let few : length nodes ≤ 2 ^ 28 = rw fed (simp (length-append, length-replicate) (omega (arith, legal.few_inputs, legal.few_latches, legal.few_gates))) in
    let short : length pairs ≤ 2 ^ 28 = rw ps (omega (arith, operands_length l legal, legal.few_gates)) in
    let n = whole nodes few in
    let p = whole pairs short in
    runs ∙ rw (n.0, n.1, p.0, append-nil (gates_of o pairs first nodes), fed, ps, at)
