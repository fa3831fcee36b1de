-- A step that takes back another's, block by block, takes back the whole run.
use Rattle.std.proofs.Common.{◌≡◌, ℕ, zero, suc, ◌+◌, ◌*◌, ◌≤◌, List, ◌++◌, length, take, drop, refl, ap, ◌∙◌, suc-mul, arith, length-append, length-drop, take-append-drop, length-take, take_at, drop_at}
use Rattle.words.specs.Bytes.{xor_bytes}
use Rattle.mixers.specs.Halves.{Halves, halves, Sized}
use Rattle.mode.specs.Steps.{turn, Step, seal_step, open_step, followed, run, run_out, run_state, run_prev}
use Rattle.mixers.proofs.Xor.{xor_cancel, length-xor}

-- The step h takes back what the step g did: the same byte string, the same state and the same last message block.
abbrev pub Undoes : ℕ → Step → Step → Type 0
Undoes n g h =
    (k : ℕ) (s : Halves) (prev xs : List ℕ) → Sized n s → length prev ≡ n → k * n ≤ length xs
    → run h n k s prev (run_out g n k s prev xs) ≡ turn (run_state g n k s prev xs) (run_prev g n k s prev xs) xs

-- Opening undoes sealing, and sealing undoes opening.
abbrev pub RoundTrip : ℕ → (Halves → Halves) → Type 0
RoundTrip n f = Undoes n (seal_step f) (open_step f) × Undoes n (open_step f) (seal_step f)

-- h takes back one block of g, and g keeps the lengths
pub record Back (n : ℕ) (g h : Step) (s : Halves) (prev b : List ℕ) : Type 0 where
  pub back : h s prev (g s prev b).block ≡ turn (g s prev b).state (g s prev b).prev b
  pub sized : Sized n (g s prev b).state
  pub prev_is : length (g s prev b).prev ≡ n
  pub block_is : length (g s prev b).block ≡ n

pub undoes : (n : ℕ) (g h : Step) → ((s : Halves) (prev b : List ℕ) → Sized n s → length prev ≡ n → length b ≡ n → Back n g h s prev b) → Undoes n g h
undoes n g h one zero s prev xs z p le = refl
undoes n g h one (suc k) s prev xs z p le =
    let le' : k * n + n ≤ length xs = omega (arith, suc-mul k n) in
    let m = take n xs in
    let rest = drop n xs in
    let lm : length m ≡ n = simp length-take (omega arith) in
    let lr : k * n ≤ length rest = simp length-drop (omega arith) in
    let b = one s prev m z p lm in
    let t = g s prev m in
    let tail = run_out g n k t.state t.prev rest in
    let ih = undoes n g h one k t.state t.prev rest b.sized b.prev_is lr in
    let front : take n (t.block ++ tail) ≡ t.block = take_at t.block tail n b.block_is in
    let after : drop n (t.block ++ tail) ≡ tail = drop_at t.block tail n b.block_is in
    let r = run g n k t.state t.prev rest in
    rw (front, after, b.back) (ap (followed (turn t.state t.prev m)) ih ∙ ap (turn r.state r.prev) (take-append-drop n xs))

-- what a run keeps
pub record Keeps (n : ℕ) (g : Step) (k : ℕ) (s : Halves) (prev xs : List ℕ) : Type 0 where
  pub size : length (run_out g n k s prev xs) ≡ length xs
  pub sized : Sized n (run_state g n k s prev xs)
  pub prev_is : length (run_prev g n k s prev xs) ≡ n

keeps_all : (n : ℕ) (g h : Step) → ((s : Halves) (prev b : List ℕ) → Sized n s → length prev ≡ n → length b ≡ n → Back n g h s prev b) → (k : ℕ) (s : Halves) (prev xs : List ℕ) → Sized n s → length prev ≡ n → k * n ≤ length xs → Keeps n g k s prev xs
keeps_all n g h one zero s prev xs z p le = record { size = refl; sized = z; prev_is = p }
keeps_all n g h one (suc k) s prev xs z p le =
    let le' : k * n + n ≤ length xs = omega (arith, suc-mul k n) in
    let m = take n xs in
    let rest = drop n xs in
    let lm : length m ≡ n = simp length-take (omega arith) in
    let lr : k * n ≤ length rest = simp length-drop (omega arith) in
    let b = one s prev m z p lm in
    let t = g s prev m in
    let more = keeps_all n g h one k t.state t.prev rest b.sized b.prev_is lr in
    record {
      size = length-append t.block (run_out g n k t.state t.prev rest) ∙ omega (arith, b.block_is, more.size, length-drop n xs);
      sized = more.sized;
      prev_is = more.prev_is;
    }

module _ (n : ℕ) (f : Halves → Halves) (keeps : (s : Halves) → Sized n s → Sized n (f s)) where
  seal_back : (s : Halves) (prev b : List ℕ) → Sized n s → length prev ≡ n → length b ≡ n → Back n (seal_step f) (open_step f) s prev b
  seal_back s prev b z p l =
      let y = keeps s z in
      let up = length-xor n (f s).upper b y.0 l in
      record {
        back = ap (λ m. turn (seal_step f s prev b).state m m) (xor_cancel (f s).upper b (omega arith));
        sized = (up, length-xor n (f s).lower prev y.1 p);
        prev_is = l;
        block_is = up;
      }

  open_back : (s : Halves) (prev b : List ℕ) → Sized n s → length prev ≡ n → length b ≡ n → Back n (open_step f) (seal_step f) s prev b
  open_back s prev b z p l =
      let y = keeps s z in
      let up = length-xor n (f s).upper b y.0 l in
      record {
        back = ap (λ c. turn (halves c (xor_bytes (f s).lower prev)) (xor_bytes (f s).upper b) c) (xor_cancel (f s).upper b (omega arith));
        sized = (l, length-xor n (f s).lower prev y.1 p);
        prev_is = up;
        block_is = up;
      }

  pub round_trip : RoundTrip n f
  round_trip = (undoes n (seal_step f) (open_step f) seal_back, undoes n (open_step f) (seal_step f) open_back)

  pub seal_keeps : (k : ℕ) (s : Halves) (prev xs : List ℕ) → Sized n s → length prev ≡ n → k * n ≤ length xs → Keeps n (seal_step f) k s prev xs
  seal_keeps = keeps_all n (seal_step f) (open_step f) seal_back

  pub open_keeps : (k : ℕ) (s : Halves) (prev xs : List ℕ) → Sized n s → length prev ≡ n → k * n ≤ length xs → Keeps n (open_step f) k s prev xs
  open_keeps = keeps_all n (open_step f) (seal_step f) open_back
