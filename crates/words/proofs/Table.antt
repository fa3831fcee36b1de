-- A table computed as a whole: its rule holds at each entry.
use Rattle.std.proofs.Common.{◌≡◌, ℕ, ◌<◌, List, map, get_or, sym, refl, ap, ◌∙◌, zero-add}
use Rattle.std.specs.List.{range_with_len}
use Rattle.std.proofs.lemmas.List.FromFn.{get_or-map-range_with_len}

-- a list that is the rule's values at 0, 1 .. n - 1 has the rule's value at each place
pub at_each : (table : List ℕ) (rule : ℕ → ℕ) (n : ℕ) → table ≡ map rule (range_with_len 0 n) → (k : ℕ) → k < n → get_or table k 0 ≡ rule k
at_each table rule n e k h = ap (λ l. get_or l k 0) e ∙ get_or-map-range_with_len rule 0 n k k 0 h (zero-add k)

-- two rules with the same values there agree at each place
pub agree : (f g : ℕ → ℕ) (n : ℕ) → map f (range_with_len 0 n) ≡ map g (range_with_len 0 n) → (k : ℕ) → k < n → f k ≡ g k
agree f g n e k h = sym (at_each (map g (range_with_len 0 n)) f n (sym e) k h) ∙ at_each (map g (range_with_len 0 n)) g n refl k h
