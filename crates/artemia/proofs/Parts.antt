-- Layers on parts of a byte string.
use Rattle.std.proofs.Common.{◌≡◌, ℕ, zero, suc, ◌+◌, ◌*◌, ◌^◌, ◌<◌, ◌≤◌, List, [], ◌∷◌, ◌++◌, length, take, drop, sym, ap, ◌∙◌, append_assoc, append-nil, suc-mul, suc-add, zero-add, arith, length-drop, take_all, drop-drop}
use lib.Bits.{bit_xor}
use lib.ListN.{length-map}
use lib.Seq.{take-append-le, drop-append-le}
use Rattle.std.proofs.lemmas.List.{map-append, take_at, drop_at}
use Rattle.words.specs.declared.Group.{Group}
use Rattle.words.specs.Bytes.{low_bytes, value}
use Rattle.words.specs.Diffusion.{diffused}
use Rattle.words.specs.Sbox.{sbox_of}
use Rattle.words.proofs.Bytes.{length-low_bytes, value-low_bytes, all_four}
use Rattle.artemia.specs.Artemia.{Kind, substituted, parts, cut, joined, four, added, round}
use Rattle.artemia.specs.Lanes.{laid, finished, HeldLaws}
use Rattle.artemia.proofs.Sizes.{length-four}

parts_next : (n k : ℕ) (f : List ℕ → List ℕ) (a b : List ℕ) → length a ≡ n → parts n (suc k) f (a ++ b) ≡ f a ++ parts n k f b
unfolding parts
parts_next n k f a b e = rw (take_at a b n e, drop_at a b n e)

parts_last : (n : ℕ) (f : List ℕ → List ℕ) (a : List ℕ) → length a ≡ n → parts n 1 f a ≡ f a
unfolding parts
parts_last n f a e = ap (λ l. f l ++ []) (take_all n a (omega arith)) ∙ append-nil (f a)

pub parts-four : (n : ℕ) (f : List ℕ → List ℕ) (a b c d : List ℕ) → length a ≡ n → length b ≡ n → length c ≡ n → length d ≡ n
    → parts n 4 f (a ++ (b ++ (c ++ d))) ≡ f a ++ (f b ++ (f c ++ f d))
parts-four n f a b c d la lb lc ld =
    parts_next n 3 f a (b ++ (c ++ d)) la
    ∙ ap (λ l. f a ++ l) (parts_next n 2 f b (c ++ d) lb ∙ ap (λ l. f b ++ l) (parts_next n 1 f c d lc ∙ ap (λ l. f c ++ l) (parts_last n f d ld)))

pub parts-append : (n j k : ℕ) (f : List ℕ → List ℕ) (a b : List ℕ) → length a ≡ j * n → parts n (j + k) f (a ++ b) ≡ parts n j f a ++ parts n k f b
unfolding parts
parts-append n zero k f [] b e = ap (λ m. parts n m f b) (zero-add k)
parts-append n zero k f (x ∷ a) b e = absurd (omega arith)
parts-append n (suc j) k f a b e =
    let ee : length a ≡ j * n + n = e ∙ suc-mul j n in
    let le : n ≤ length a = omega arith in
    let rest : length (drop n a) ≡ j * n = simp length-drop (omega arith) in
    ap (λ m. parts n m f (a ++ b)) (suc-add j k)
    ∙ rw (take-append-le n a b le, drop-append-le n a b le, parts-append n j k f (drop n a) b rest) (sym (append_assoc (f (take n a)) (parts n j f (drop n a)) (parts n k f b)))

pub substituted-append_four : (a b c d : List ℕ) → substituted (a ++ (b ++ (c ++ d))) ≡ substituted a ++ (substituted b ++ (substituted c ++ substituted d))
substituted-append_four a b c d = simp (map-append sbox_of)

pub cut-four : (n : ℕ) (a b c d : List ℕ) → length a ≡ n → length b ≡ n → length c ≡ n → length d ≡ n
    → cut n (a ++ (b ++ (c ++ d))) ≡ record { x0 = value a; x1 = value b; x2 = value c; x3 = value d }
unfolding cut
cut-four n a b c d la lb lc ld =
    let s : List ℕ = a ++ (b ++ (c ++ d)) in
    let e1 : drop n s ≡ b ++ (c ++ d) = drop_at a (b ++ (c ++ d)) n la in
    let e2 : drop (n + n) s ≡ c ++ d = sym (drop-drop n n s) ∙ ap (drop n) e1 ∙ drop_at b (c ++ d) n lb in
    let e3 : drop (n + n + n) s ≡ d = sym (drop-drop n (n + n) s) ∙ ap (drop n) e2 ∙ drop_at c d n lc in
    let w0 : value (take n s) ≡ value a = ap value (take_at a (b ++ (c ++ d)) n la) in
    let w1 : value (take n (drop n s)) ≡ value b = ap value (ap (take n) e1 ∙ take_at b (c ++ d) n lb) in
    let w2 : value (take n (drop (n + n) s)) ≡ value c = ap value (ap (take n) e2 ∙ take_at c d n lc) in
    let w3 : value (take n (drop (n + n + n) s)) ≡ value d = ap value (ap (take n) e3 ∙ take_all n d (omega arith)) in
    cc

-- four words that fit, put together and cut again
cut-joined : (n : ℕ) (g : Group ℕ) → g.x0 < 256 ^ n → g.x1 < 256 ^ n → g.x2 < 256 ^ n → g.x3 < 256 ^ n → cut n (joined n g) ≡ g
unfolding joined
cut-joined n g h0 h1 h2 h3 =
    let e = cut-four n (low_bytes n g.x0) (low_bytes n g.x1) (low_bytes n g.x2) (low_bytes n g.x3) (length-low_bytes n g.x0) (length-low_bytes n g.x1) (length-low_bytes n g.x2) (length-low_bytes n g.x3) in
    e ∙ rw (value-low_bytes n g.x0 h0, value-low_bytes n g.x1 h1, value-low_bytes n g.x2 h2, value-low_bytes n g.x3 h3)

-- the four-word rule on four words that fit
pub four-joined : (n : ℕ) (l : ℕ → ℕ) (g : Group ℕ) → g.x0 < 256 ^ n → g.x1 < 256 ^ n → g.x2 < 256 ^ n → g.x3 < 256 ^ n
    → four n l (joined n g) ≡ joined n (diffused bit_xor l g)
unfolding four
four-joined n l g h0 h1 h2 h3 = ap (λ h. joined n (diffused bit_xor l h)) (cut-joined n g h0 h1 h2 h3)

-- the same by the bytes of the words
pub spread_is : (n : ℕ) (l : ℕ → ℕ) (g y : Group ℕ) → y ≡ diffused bit_xor l g → g.x0 < 256 ^ n → g.x1 < 256 ^ n → g.x2 < 256 ^ n → g.x3 < 256 ^ n
    → laid (low_bytes n) y ≡ four n l (laid (low_bytes n) g)
unfolding laid joined
spread_is n l g y e h0 h1 h2 h3 = ap (joined n) e ∙ sym (four-joined n l g h0 h1 h2 h3)

length-substituted : (s : List ℕ) (n : ℕ) → length s ≡ n → length (substituted s) ≡ n
length-substituted s n e = length-map s sbox_of ∙ e

-- four words of n bytes, each changed by S, or by S, a rule of D3 and S
module _ {W : Type 0} {n : ℕ} {held : W → List ℕ} (laws : HeldLaws n held) (y r : Group W) where
  pub second_is : held r.x0 ≡ substituted (held y.x0) → held r.x1 ≡ substituted (held y.x1) → held r.x2 ≡ substituted (held y.x2) → held r.x3 ≡ substituted (held y.x3)
      → laid held r ≡ substituted (laid held y)
  unfolding laid
  second_is e0 e1 e2 e3 = all_four e0 e1 e2 e3 ∙ sym (substituted-append_four (held y.x0) (held y.x1) (held y.x2) (held y.x3))

  pub third_is : (f : List ℕ → List ℕ)
      → held r.x0 ≡ substituted (f (substituted (held y.x0)))
      → held r.x1 ≡ substituted (f (substituted (held y.x1)))
      → held r.x2 ≡ substituted (f (substituted (held y.x2)))
      → held r.x3 ≡ substituted (f (substituted (held y.x3)))
      → laid held r ≡ substituted (parts n 4 f (substituted (laid held y)))
  unfolding laid
  third_is f e0 e1 e2 e3 =
      let p : W → List ℕ = λ x. substituted (held x) in
      let l : (x : W) → length (p x) ≡ n = λ x. length-substituted (held x) n (laws.sized x) in
      all_four e0 e1 e2 e3
      ∙ sym (
      ap (λ t. substituted (parts n 4 f t)) (substituted-append_four (held y.x0) (held y.x1) (held y.x2) (held y.x3))
      ∙ ap substituted (parts-four n f (p y.x0) (p y.x1) (p y.x2) (p y.x3) (l y.x0) (l y.x1) (l y.x2) (l y.x3))
      ∙ substituted-append_four (f (p y.x0)) (f (p y.x1)) (f (p y.x2)) (f (p y.x3))
      )

parts-sixteen : (n : ℕ) (f : List ℕ → List ℕ) (a b c d : List ℕ) → length a ≡ 4 * n → length b ≡ 4 * n → length c ≡ 4 * n
    → parts n 16 f (a ++ (b ++ (c ++ d))) ≡ parts n 4 f a ++ (parts n 4 f b ++ (parts n 4 f c ++ parts n 4 f d))
parts-sixteen n f a b c d la lb lc =
    parts-append n 4 12 f a (b ++ (c ++ d)) la
    ∙ ap (λ l. parts n 4 f a ++ l) (parts-append n 4 8 f b (c ++ d) lb ∙ ap (λ l. parts n 4 f b ++ l) (parts-append n 4 4 f c d lc))

-- a round, once D1 has given four words
pub round_is : (k : Kind) (c : ℕ) (s x0 x1 x2 x3 : List ℕ)
    → length x0 ≡ k.first_bytes → length x1 ≡ k.first_bytes → length x2 ≡ k.first_bytes → length x3 ≡ k.first_bytes
    → four k.first_bytes k.first (added c s) ≡ x0 ++ (x1 ++ (x2 ++ x3))
    → round k c s ≡ finished k x0 ++ (finished k x1 ++ (finished k x2 ++ finished k x3))
unfolding round finished
round_is k c s x0 x1 x2 x3 n0 n1 n2 n3 e =
    let n = k.second_bytes in
    let f = k.third in
    let q : List ℕ → List ℕ = four n k.second in
    let p : List ℕ → List ℕ = λ x. q (substituted x) in
    let r : List ℕ → List ℕ = λ x. substituted (p x) in
    let l : (x : List ℕ) → length (r x) ≡ 4 * n = λ x. length-substituted (p x) (4 * n) (length-four n k.second (substituted x)) in
    ap (λ t. substituted (parts n 16 f (substituted (parts k.first_bytes 4 q (substituted t))))) e
    ∙ ap (λ t. substituted (parts n 16 f (substituted (parts k.first_bytes 4 q t)))) (substituted-append_four x0 x1 x2 x3)
    ∙ ap (λ t. substituted (parts n 16 f (substituted t)))
    (parts-four k.first_bytes q (substituted x0) (substituted x1) (substituted x2) (substituted x3)
    (length-substituted x0 k.first_bytes n0) (length-substituted x1 k.first_bytes n1) (length-substituted x2 k.first_bytes n2) (length-substituted x3 k.first_bytes n3))
    ∙ ap (λ t. substituted (parts n 16 f t)) (substituted-append_four (p x0) (p x1) (p x2) (p x3))
    ∙ ap substituted (parts-sixteen n f (r x0) (r x1) (r x2) (r x3) (l x0) (l x1) (l x2))
    ∙ substituted-append_four (parts n 4 f (r x0)) (parts n 4 f (r x1)) (parts n 4 f (r x2)) (parts n 4 f (r x3))
