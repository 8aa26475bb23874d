-- Frames, links and formula gates whose clauses hold, and the assignment in which they do. Assumes nothing.
use Rattle.std.proofs.Common.{◌≡◌, ℕ, ◌+◌, ◌-◌, ◌*◌, ◌/◌, ◌%◌, ◌<◌, ◌≤◌, Bool, true, false, cond, not, ◌&&◌, ltb, List, sym, refl, ap, ◌∙◌, zero-mul, arith}
use Rattle.std.proofs.lemmas.Nat.{mul-add-lt, div-mul-add, mod-mul-add}
use Rattle.std.proofs.lemmas.List.FromFn.{get_or-map-range_with_len}
use Rattle.std.proofs.lemmas.Bool.{cond-true, cond-false, lt-ltb, le-ltb, not-true}
use Rattle.sheet.specs.Sheets.{Sheet}
use Rattle.signal.specs.Truth.{lit, holds}
use Rattle.machine.specs.Bits.{bit}
use Rattle.machine.specs.Fits.{input_at, latch_at, Settled}
use Rattle.machine.specs.Runs.{Frame, value_in}
use Rattle.machine.specs.Values.{gate_at, values}
use Rattle.machine.proofs.Chains.{lit_same, both_same}
use Rattle.machine.proofs.Values.{settled, only_settled}
use Rattle.formula.specs.Conjunction.{opposite}
use Rattle.formula.specs.Formulas.{width, left_of, right_of, nodes_at, value_at, Formula, Gates}
use Rattle.formula.specs.Framing.{in_frame, in_question}
use Rattle.formula.proofs.Valued.{lit_even, lit_opposite}
use Rattle.question.specs.Clauses.{gate_literal, latch_literal}
use Rattle.question.specs.Meaning.{frame_at, FrameTells, FormulasTell}
use Rattle.question.proofs.Formulae.{Rooted, nodes_rooted, rooted_value, rooted_like}
use Rattle.question.proofs.Holding.{unit_tells, unit_from, and_tells, and_from, same_tells, same_from}
use Rattle.question.proofs.Literals.{row_less, lit_next, slice, lit_framed, placed_low, placed_high, spread, posed_sign, lit_posed}
use Rattle.question.proofs.Parts.{FrameParts, LinkParts, FormulaParts}
use Rattle.question.proofs.Variables.{Lawful}

-- a clause holds
abbrev pub Held : (ℕ → Bool) → List ℕ → Type 0
Held α c = holds α c ≡ true

module _ (s : Sheet) (α : ℕ → Bool) where
  abbrev w : ℕ
  w = width s

  -- ---- what the bits of a frame are
  pub latch_bit : (t i : ℕ) → i < s.latches → slice w α t (latch_at s i) ≡ bit (frame_at s α t).state i
  latch_bit t i h = sym (get_or-map-range_with_len α (t * w + 1 + s.inputs) s.latches i (t * w + latch_at s i) false h (omega arith))

  input_bit : (t i : ℕ) → i < s.inputs → slice w α t (input_at s i) ≡ bit (frame_at s α t).inputs i
  input_bit t i h = sym (get_or-map-range_with_len α (t * w + 1) s.inputs i (t * w + input_at s i) false h (omega arith))

  -- ---- literals of a frame
  own_gate : (t g : ℕ) → lit α (in_frame w t (gate_literal s g)) ≡ slice w α t (gate_at s g)
  own_gate t g = lit_framed w α t (gate_literal s g) ∙ lit_even (slice w α t) (gate_at s g)

  own_latch : (t i : ℕ) → lit α (in_frame w t (latch_literal s i)) ≡ slice w α t (latch_at s i)
  own_latch t i = lit_framed w α t (latch_literal s i) ∙ lit_even (slice w α t) (latch_at s i)

  opposite_framed : (t x : ℕ) → lit α (in_frame w t (opposite x)) ≡ not (lit α (in_frame w t x))
  opposite_framed t x = lit_framed w α t (opposite x) ∙ lit_opposite (slice w α t) x ∙ ap not (sym (lit_framed w α t x))

  next_framed : (t i : ℕ) → lit α (in_frame w t (latch_literal s i + 1)) ≡ not (lit α (in_frame w t (latch_literal s i)))
  next_framed t i =
      lit_framed w α t (latch_literal s i + 1) ∙ lit_next (slice w α t) (latch_literal s i) (omega arith) ∙ ap not (sym (lit_framed w α t (latch_literal s i)))

  even_gate : (t g : ℕ) → in_frame w t (gate_literal s g) % 2 ≡ 0
  even_gate t g = omega arith

  -- ---- a frame
  pub frame_fits : (t : ℕ) → FrameParts (Held α) s t → Settled s (bit (frame_at s α t).state) (bit (frame_at s α t).inputs) (slice w α t)
  frame_fits t p =
      record {
        constant =
            not-true (slice w α t 0)
            (ap not (sym (lit_even (slice w α t) 0)) ∙ sym (lit_next (slice w α t) 0 refl) ∙ sym (lit_framed w α t 1) ∙ unit_tells α (in_frame w t 1) p.constant);
        inputs = input_bit t;
        latches = latch_bit t;
        gates = λ g h.
            sym (own_gate t g) ∙ and_tells α (in_frame w t (gate_literal s g)) (in_frame w t (s.left g)) (in_frame w t (s.right g)) (even_gate t g) (p.gates g h)
            ∙ both_same (lit_framed w α t (s.left g)) (lit_framed w α t (s.right g));
      }

  pub frame_from : (t : ℕ) → slice w α t 0 ≡ false
      → ((g : ℕ) → g < s.gates → slice w α t (gate_at s g) ≡ (lit (slice w α t) (s.left g) && lit (slice w α t) (s.right g)))
      → FrameParts (Held α) s t
  frame_from t none each =
      record {
        constant =
            unit_from α (in_frame w t 1)
            (lit_framed w α t 1 ∙ lit_next (slice w α t) 0 refl ∙ ap not (lit_even (slice w α t) 0 ∙ none));
        gates = λ g h.
            and_from α (in_frame w t (gate_literal s g)) (in_frame w t (s.left g)) (in_frame w t (s.right g)) (even_gate t g)
            (own_gate t g ∙ each g h ∙ sym (both_same (lit_framed w α t (s.left g)) (lit_framed w α t (s.right g))));
      }

  -- ---- a link
  pub link_tells : (t : ℕ) → LinkParts (Held α) s t → (i : ℕ) → i < s.latches → slice w α (t + 1) (latch_at s i) ≡ lit α (in_frame w t (s.next i))
  link_tells t p i h =
      sym (own_latch (t + 1) i)
      ∙ same_tells α (in_frame w t (s.next i)) (in_frame w t (opposite (s.next i))) (in_frame w (t + 1) (latch_literal s i)) (in_frame w (t + 1) (latch_literal s i + 1))
      (opposite_framed t (s.next i)) (next_framed (t + 1) i) (p i h)

  pub link_from : (t : ℕ) → ((i : ℕ) → i < s.latches → slice w α (t + 1) (latch_at s i) ≡ lit α (in_frame w t (s.next i))) → LinkParts (Held α) s t
  link_from t each i h =
      same_from α (in_frame w t (s.next i)) (in_frame w t (opposite (s.next i))) (in_frame w (t + 1) (latch_literal s i)) (in_frame w (t + 1) (latch_literal s i + 1))
      (opposite_framed t (s.next i)) (next_framed (t + 1) i) (own_latch (t + 1) i ∙ each i h)

  -- ---- formula gates
  module _ (f : List ℕ) (n m : ℕ) where
    abbrev u : ℕ → Bool
    u = spread w m α

    even_formula : (g : ℕ) → in_question w m (2 * (w + g)) % 2 ≡ 0
    even_formula g = let same : in_question w m (2 * (w + g)) % 2 ≡ 2 * (w + g) % 2 = posed_sign w m (2 * (w + g)) in omega arith

    own_formula : (g : ℕ) → lit α (in_question w m (2 * (w + g))) ≡ u (w + g)
    own_formula g = lit_posed w m α (2 * (w + g)) ∙ lit_even u (w + g)

    pub gates_tell : FormulaParts (Held α) s m f n → (g : ℕ) → g < n → u (w + g) ≡ (lit u (left_of f g) && lit u (right_of f g))
    gates_tell p g h =
        sym (own_formula g) ∙ and_tells α (in_question w m (2 * (w + g))) (in_question w m (left_of f g)) (in_question w m (right_of f g)) (even_formula g) (p g h)
        ∙ both_same (lit_posed w m α (left_of f g)) (lit_posed w m α (right_of f g))

    pub gates_from : ((g : ℕ) → g < n → u (w + g) ≡ (lit u (left_of f g) && lit u (right_of f g))) → FormulaParts (Held α) s m f n
    gates_from each g h =
        and_from α (in_question w m (2 * (w + g))) (in_question w m (left_of f g)) (in_question w m (right_of f g)) (even_formula g)
        (own_formula g ∙ each g h ∙ sym (both_same (lit_posed w m α (left_of f g)) (lit_posed w m α (right_of f g))))

    -- what they say of formulas, if frame 0 holds
    pub formulas_tell : Gates s f n → FrameParts (Held α) s 0 → FormulaParts (Held α) s m f n → FormulasTell s f n m α
    formulas_tell gates frame p x is =
        let fits = frame_fits 0 frame in
        let low : (j : ℕ) → j < w → u j ≡ slice w α 0 j =
        λ j h. ap α (placed_low w m j h) ∙ (let at : j ≡ 0 * w + j = omega (arith, zero-mul w) in ap α at) in
        lit_posed w m α x
        ∙ rooted_value s f n gates (bit (frame_at s α 0).state) u
        (record {
          constant = low 0 (omega arith) ∙ fits.constant;
          latches = λ i h. low (latch_at s i) (omega arith) ∙ fits.latches i h;
          gates = gates_tell p;
        })
        x is

pub frame_tells : (s : Sheet) → Lawful s → (α : ℕ → Bool) (t : ℕ) → FrameParts (Held α) s t → FrameTells s α t
frame_tells s lawful α t p x h =
    let c : ℕ → Bool = bit (frame_at s α t).state in
    let b : ℕ → Bool = bit (frame_at s α t).inputs in
    let v : ℕ → Bool = slice (width s) α t in
    lit_framed (width s) α t x
    ∙ lit_same v (values s c b) x (only_settled s c b lawful.ascends v (frame_fits s α t p) (x / 2) h)

-- ---- the assignment that m frames give, with formulas at the state of frame 0
module _ (s : Sheet) (lawful : Lawful s) (f : List ℕ) (n m : ℕ) (gates : Gates s f n) (some : 1 ≤ m) (frames : ℕ → Frame s) where
  abbrev nodes_of : ℕ → ℕ → Bool
  nodes_of t = values s (bit (frames t).state) (bit (frames t).inputs)

  abbrev state : ℕ → Bool
  state = bit (frames 0).state

  abbrev pub assigned : ℕ → Bool
  assigned x = cond (ltb x (m * width s)) (nodes_of (x / width s) (x % width s)) (nodes_at s f n state (x - (m - 1) * width s))

  pub assigned_node : (t j : ℕ) → t < m → j < width s → slice (width s) assigned t j ≡ nodes_of t j
  assigned_node t j a b =
      let low : t * width s + j < m * width s = omega (arith, mul-add-lt t (width s) j m a b) in
      cond-true _ _ _ (lt-ltb _ _ low) ∙ ap (λ (i : ℕ). nodes_of i ((t * width s + j) % width s)) (div-mul-add t (width s) j b)
      ∙ ap (nodes_of t) (mod-mul-add t (width s) j b)

  pub assigned_literal : (t x : ℕ) → t < m → x / 2 < width s → lit assigned (in_frame (width s) t x) ≡ value_in s (frames t) x
  assigned_literal t x a b =
      lit_framed (width s) assigned t x ∙ lit_same (slice (width s) assigned t) (nodes_of t) x (assigned_node t (x / 2) a b)

  fits : (t : ℕ) → Settled s (bit (frames t).state) (bit (frames t).inputs) (nodes_of t)
  fits t = settled s (bit (frames t).state) (bit (frames t).inputs) lawful.ascends

  pub assigned_frame : (t : ℕ) → t < m → FrameParts (Held assigned) s t
  assigned_frame t h =
      let v : ℕ → Bool = slice (width s) assigned t in
      frame_from s assigned t (assigned_node t 0 h (omega arith) ∙ (fits t).constant)
      (λ g l.
      let a : s.left g / 2 < gate_at s g = lawful.ascends.lefts g l in
      let b : s.right g / 2 < s.left g / 2 = lawful.ascends.rights g l in
      let same : (x : ℕ) → x / 2 < width s → lit (nodes_of t) x ≡ lit v x = λ x k. sym (lit_same v (nodes_of t) x (assigned_node t (x / 2) h k)) in
      assigned_node t (gate_at s g) h (omega arith) ∙ (fits t).gates g l ∙ both_same (same (s.left g) (omega arith)) (same (s.right g) (omega arith)))

  pub assigned_link : (t : ℕ) → t + 1 < m → ((i : ℕ) → i < s.latches → bit (frames (t + 1)).state i ≡ value_in s (frames t) (s.next i)) → LinkParts (Held assigned) s t
  assigned_link t h follows =
      link_from s assigned t (λ i l.
      assigned_node (t + 1) (latch_at s i) h (omega arith) ∙ (fits (t + 1)).latches i l ∙ follows i l ∙ sym (assigned_literal t (s.next i) (omega arith) (lawful.nexts i l)))

  rooted : Rooted s f n state (spread (width s) m assigned)
  rooted =
      let w : ℕ = width s in
      let u : ℕ → Bool = spread w m assigned in
      let low : (j : ℕ) → j < w → u j ≡ nodes_of 0 j =
      λ j h. ap assigned (placed_low w m j h) ∙ (let at : j ≡ 0 * w + j = omega (arith, zero-mul w) in ap assigned at) ∙ assigned_node 0 j (omega arith) h in
      let is = nodes_rooted s f n gates state in
      rooted_like s f n gates state u (nodes_at s f n state)
      (low 0 (omega arith) ∙ (fits 0).constant ∙ sym is.constant)
      (λ i h. low (latch_at s i) (omega arith) ∙ (fits 0).latches i h ∙ sym (is.latches i h))
      (λ g h.
      let high : m * w ≤ w + g + (m - 1) * w = omega (arith, row_less m w some) in
      let back : w + g + (m - 1) * w - (m - 1) * w ≡ w + g = omega arith in
      ap assigned (placed_high w m (w + g) (omega arith)) ∙ cond-false _ _ _ (le-ltb _ _ high) ∙ ap (nodes_at s f n state) back)
      is

  pub assigned_formulas : FormulaParts (Held assigned) s m f n
  assigned_formulas = gates_from s assigned f n m rooted.gates

  pub assigned_formula : (x : ℕ) → Formula s n x → lit assigned (in_question (width s) m x) ≡ value_at s f n state x
  assigned_formula x is =
      lit_posed (width s) m assigned x ∙ rooted_value s f n gates state (spread (width s) m assigned) rooted x is
