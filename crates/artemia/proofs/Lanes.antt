-- Four words laid out as bytes.
use Rattle.std.proofs.Common.{◌≡◌, ℕ, ◌+◌, ◌*◌, List, ◌++◌, length, take, drop, sym, ap, ◌∙◌, append_assoc, arith, length-append}
use Rattle.std.proofs.lemmas.List.{take_at, drop_at}
use Rattle.words.specs.declared.Group.{Group}
use Rattle.words.specs.Bytes.{low_bytes, value, Bytes, xor_bytes}
use Rattle.words.proofs.Bytes.{Bytes-append, length-low_bytes, low_bytes-value, low_xor, xor_bytes-append}
use Rattle.artemia.specs.Artemia.{joined, added}
use Rattle.artemia.specs.Lanes.{laid, HeldLaws}

pub added_is : (s t : List ℕ) → length s ≡ length t → Bytes s → Bytes t → added (value t) s ≡ xor_bytes s t
unfolding added
added_is s t e p q =
    let left : low_bytes (length s) (value s) ≡ s = low_bytes-value s p in
    let right : low_bytes (length s) (value t) ≡ t = rw e (low_bytes-value t q) in
    low_xor (length s) (value s) (value t) ∙ rw (left, right)

module _ {W : Type 0} {n : ℕ} {held : W → List ℕ} (laws : HeldLaws n held) where
  pub length-laid : (g : Group W) → length (laid held g) ≡ 4 * n
  unfolding laid
  length-laid g =
      let l0 = laws.sized g.x0 in
      let l1 = laws.sized g.x1 in
      let l2 = laws.sized g.x2 in
      let l3 = laws.sized g.x3 in
      simp length-append (omega arith)

  pub Bytes-laid : (g : Group W) → Bytes (laid held g)
  unfolding laid
  Bytes-laid g =
      let b = laws.bytes in
      Bytes-append (held g.x0) _ (b g.x0) (Bytes-append (held g.x1) _ (b g.x1) (Bytes-append (held g.x2) _ (b g.x2) (b g.x3)))

  -- four words and four others of as many bytes
  pub xor_bytes-laid : (g : Group W) (h : Group ℕ)
      → xor_bytes (laid held g) (joined n h)
      ≡ xor_bytes (held g.x0) (low_bytes n h.x0) ++ (xor_bytes (held g.x1) (low_bytes n h.x1) ++ (xor_bytes (held g.x2) (low_bytes n h.x2) ++ xor_bytes (held g.x3) (low_bytes n h.x3)))
  unfolding laid joined
  xor_bytes-laid g h =
      let same : (x : W) (y : ℕ) → length (held x) ≡ length (low_bytes n y) = λ x y. laws.sized x ∙ sym (length-low_bytes n y) in
      xor_bytes-append (held g.x0) _ (low_bytes n h.x0) _ (same g.x0 h.x0)
      ∙ ap (λ l. xor_bytes (held g.x0) (low_bytes n h.x0) ++ l)
      (xor_bytes-append (held g.x1) _ (low_bytes n h.x1) _ (same g.x1 h.x1)
      ∙ ap (λ l. xor_bytes (held g.x1) (low_bytes n h.x1) ++ l) (xor_bytes-append (held g.x2) (held g.x3) (low_bytes n h.x2) (low_bytes n h.x3) (same g.x2 h.x2)))

  -- the upper and the lower half of what four words make
  pub in_halves : (g : Group W) (t : List ℕ) → laid held g ≡ t
      → (held g.x2 ++ held g.x3 ≡ drop (n + n) t) × (held g.x0 ++ held g.x1 ≡ take (n + n) t)
  unfolding laid
  in_halves g t e =
      let l0 = laws.sized g.x0 in
      let l1 = laws.sized g.x1 in
      let low : List ℕ = held g.x0 ++ held g.x1 in
      let high : List ℕ = held g.x2 ++ held g.x3 in
      let l : length low ≡ n + n = simp length-append (omega arith) in
      let whole : t ≡ low ++ high = sym e ∙ sym (append_assoc (held g.x0) (held g.x1) high) in
      (sym (ap (drop (n + n)) whole ∙ drop_at low high (n + n) l), sym (ap (take (n + n)) whole ∙ take_at low high (n + n) l))
