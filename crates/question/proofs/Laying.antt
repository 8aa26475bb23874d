-- What the pen leaves is the layout. Assumes nothing.
use Rattle.std.proofs.Common.{◌≡◌, ℕ, suc, ◌+◌, ◌-◌, ◌≤◌, List, [], ◌∷◌, ◌++◌, length, take, drop, set, replicate, sym, refl, ap, ◌∙◌, arith, length-drop}
use Rattle.std.proofs.lemmas.List.{append_assoc, set_at, take-append-drop, length-take-le, length-append, length_push, length-replicate, replicate-append-replicate}
use Rattle.question.specs.Layout.{flat, starts, encode, written}
use Rattle.question.specs.Writing.{Pen, pen, begun, pushes, puts, closed}

-- the literals of a clause replace as many numbers
pushes_at : (c zs : List ℕ) → length zs ≡ length c → (p ys : List ℕ) (a t : ℕ) → length p ≡ t → pushes (p ++ (zs ++ ys), pen a t) c ≡ (p ++ (c ++ ys), pen a (t + length c))
pushes_at [] [] l p ys a t e = let z : t ≡ t + 0 = omega arith in ap (λ n. (p ++ ys, pen a n)) z
pushes_at [] (z ∷ zs) l p ys a t e = absurd (omega arith)
pushes_at (x ∷ c) [] l p ys a t e = absurd (omega arith)
pushes_at (x ∷ c) (z ∷ zs) l p ys a t e =
    let n : t + 1 + length c ≡ t + suc (length c) = omega arith in
    ap (λ q. pushes (q, pen a (t + 1)) c) (set_at p z (zs ++ ys) x t e ∙ sym (append_assoc p (x ∷ []) (zs ++ ys)))
    ∙ pushes_at c zs (omega arith) (p ++ (x ∷ [])) ys a (t + 1) (omega (arith, length_push p x))
    ∙ ap (λ q. (q, pen a (t + 1 + length c))) (append_assoc p (x ∷ []) (c ++ ys))
    ∙ ap (λ m. (p ++ (x ∷ (c ++ ys)), pen a m)) n

-- the places of clauses replace the numbers us, and their literals ws
laid : (cs : List (List ℕ)) (us ws : List ℕ) → length us ≡ length cs → length ws ≡ length (flat cs) → (p m b ys : List ℕ) (a t : ℕ) →
    length p ≡ a → a + length us + length m + length b ≡ t →
    puts (p ++ (us ++ (m ++ (b ++ (ws ++ ys)))), pen a t) cs
    ≡ (p ++ (starts t cs ++ (m ++ (b ++ (flat cs ++ ys)))), pen (a + length cs) (t + length (flat cs)))
laid [] [] [] lu lw p m b ys a t e f =
    let x : a ≡ a + 0 = omega arith in
    let y : t ≡ t + 0 = omega arith in
    ap (λ n. (p ++ (m ++ (b ++ ys)), pen n t)) x ∙ ap (λ n. (p ++ (m ++ (b ++ ys)), pen (a + 0) n)) y
laid [] [] (w ∷ ws) lu lw p m b ys a t e f = absurd (omega arith)
laid [] (u ∷ us) ws lu lw p m b ys a t e f = absurd (omega arith)
laid (c ∷ cs) [] ws lu lw p m b ys a t e f = absurd (omega arith)
laid (c ∷ cs) (u ∷ us) ws lu lw p m b ys a t e f =
    let lf : length ws ≡ length c + length (flat cs) = lw ∙ length-append c (flat cs) in
    let w1 : List ℕ = take (length c) ws in
    let w2 : List ℕ = drop (length c) ws in
    let l1 : length w1 ≡ length c = length-take-le (length c) ws (omega arith) in
    let l2 : length w2 ≡ length (flat cs) = length-drop (length c) ws ∙ omega arith in
    let front : List ℕ = p ++ (t ∷ (us ++ (m ++ b))) in
    let lp : length front ≡ t = simp length-append (omega arith) in
    let split : w1 ++ w2 ≡ ws = take-append-drop (length c) ws in
    let one : p ++ (t ∷ (us ++ (m ++ (b ++ (ws ++ ys))))) ≡ front ++ (w1 ++ (w2 ++ ys)) =
    ap (λ w. p ++ (t ∷ (us ++ (m ++ (b ++ (w ++ ys)))))) (sym split) ∙ simp append_assoc in
    let two : front ++ (c ++ (w2 ++ ys)) ≡ (p ++ (t ∷ [])) ++ (us ++ (m ++ ((b ++ c) ++ (w2 ++ ys)))) = simp append_assoc in
    let three : (p ++ (t ∷ [])) ++ (starts (t + length c) cs ++ (m ++ ((b ++ c) ++ (flat cs ++ ys)))) ≡ p ++ ((t ∷ starts (t + length c) cs) ++ (m ++ (b ++ ((c ++ flat cs) ++ ys)))) = simp append_assoc in
    let x : a + 1 + length cs ≡ a + suc (length cs) = omega arith in
    let y : t + length c + length (flat cs) ≡ t + length (c ++ flat cs) = omega (arith, length-append c (flat cs)) in
    ap (λ q. puts (pushes (q, pen (a + 1) t) c) cs) (set_at p u (us ++ (m ++ (b ++ (ws ++ ys)))) t a e ∙ one)
    ∙ ap (λ q. puts q cs) (pushes_at c w1 l1 front (w2 ++ ys) (a + 1) t lp)
    ∙ ap (λ q. puts (q, pen (a + 1) (t + length c)) cs) two
    ∙ laid cs us w2 (omega arith) l2 (p ++ (t ∷ [])) m (b ++ c) ys (a + 1) (t + length c) (omega (arith, length_push p t)) (simp length-append (omega arith))
    ∙ ap (λ q. (q, pen (a + 1 + length cs) (t + length c + length (flat cs)))) three
    ∙ ap (λ n. (p ++ ((t ∷ starts (t + length c) cs) ++ (m ++ (b ++ ((c ++ flat cs) ++ ys)))), pen n (t + length c + length (flat cs)))) x
    ∙ ap (λ n. (p ++ ((t ∷ starts (t + length c) cs) ++ (m ++ (b ++ ((c ++ flat cs) ++ ys)))), pen (a + suc (length cs)) n)) y

pub length_starts : (cs : List (List ℕ)) (t : ℕ) → length (starts t cs) ≡ length cs
length_starts [] t = refl
length_starts (c ∷ cs) t = ap suc (length_starts cs (t + length c))

pub length_encode : (v a : ℕ) (cs : List (List ℕ)) → length (encode v a cs) ≡ 4 + length cs + length (flat cs)
length_encode v a cs =
    let e : ℕ = 4 + length cs + length (flat cs) in
    omega (arith, length-append (starts (4 + length cs) cs) (e ∷ flat cs), length_starts cs (4 + length cs))

-- p is the page after the clauses cs, in a list of n places
module _ (v a : ℕ) (cs : List (List ℕ)) (n : ℕ) (room : length (encode v a cs) ≤ n) (p : List ℕ × Pen) (is : p ≡ puts (begun n v (length cs) a) cs) where
  size : length (encode v a cs) ≡ 4 + length cs + length (flat cs)
  size = length_encode v a cs

  abbrev zs : List ℕ
  zs = replicate (n - length (encode v a cs)) 0

  abbrev t : ℕ
  t = 4 + length cs

  zeros : replicate (n - 3) 0 ≡ replicate (length cs) 0 ++ ((0 ∷ []) ++ ([] ++ (replicate (length (flat cs)) 0 ++ zs)))
  zeros =
      let e : n - 3 ≡ length cs + suc (length (flat cs) + (n - length (encode v a cs))) = omega (arith, size) in
      ap (λ m. replicate m 0) e ∙ sym (replicate-append-replicate (length cs) (suc (length (flat cs) + (n - length (encode v a cs)))) 0)
      ∙ ap (λ l. replicate (length cs) 0 ++ (0 ∷ l)) (sym (replicate-append-replicate (length (flat cs)) (n - length (encode v a cs)) 0))

  head : set (set (set (replicate n 0) 0 v) 1 (length cs)) 2 a ≡ v ∷ length cs ∷ a ∷ replicate (n - 3) 0
  head = let e : n ≡ suc (suc (suc (n - 3))) = omega (arith, size) in ap (λ m. set (set (set (replicate m 0) 0 v) 1 (length cs)) 2 a) e

  done : p ≡ ((v ∷ length cs ∷ a ∷ []) ++ (starts t cs ++ ((0 ∷ []) ++ ([] ++ (flat cs ++ zs)))), pen (3 + length cs) (t + length (flat cs)))
  done =
      is ∙ ap (λ q. puts (q, pen 3 t) cs) (head ∙ ap (λ q. v ∷ length cs ∷ a ∷ q) zeros)
      ∙ laid cs (replicate (length cs) 0) (replicate (length (flat cs)) 0) (length-replicate {A = ℕ} (length cs) 0) (length-replicate {A = ℕ} (length (flat cs)) 0) (v ∷ length cs ∷ a ∷ []) (0 ∷ []) [] zs 3 t refl
      (omega (arith, length-replicate {A = ℕ} (length cs) 0))

  pub closed_is : closed p ≡ (length (encode v a cs), encode v a cs ++ zs)
  closed_is =
      let b : List ℕ = v ∷ length cs ∷ a ∷ starts t cs in
      let e : ℕ = t + length (flat cs) in
      let list : set (b ++ (0 ∷ (flat cs ++ zs))) (3 + length cs) e ≡ encode v a cs ++ zs =
      set_at b 0 (flat cs ++ zs) e (3 + length cs) (omega (arith, length_starts cs t)) ∙ sym (append_assoc b (e ∷ flat cs) zs) in
      ap closed done ∙ ap (λ l. (e, l)) list ∙ ap (λ m. (m, encode v a cs ++ zs)) (sym size)

-- the same, with other names for what was written in front
pub written_is : (v a : ℕ) (cs : List (List ℕ)) (n v' c a' : ℕ) → v' ≡ v → c ≡ length cs → a' ≡ a → 4 + length cs + length (flat cs) ≤ n →
    (p q : List ℕ × Pen) → p ≡ begun n v' c a' → q ≡ puts p cs → (r : ℕ × List ℕ) → r ≡ closed q → r ≡ written (encode v a cs) n
written_is v a cs n v' c a' vs counts firsts room p q begins puts-all r ends =
    let head : p ≡ begun n v (length cs) a = begins ∙ (λ i. begun n (vs i) (counts i) (firsts i)) in
    ends ∙ closed_is v a cs n (omega (arith, length_encode v a cs)) q (puts-all ∙ ap (λ x. puts x cs) head)
