-- What sealing and opening are to each other, under every mixer.
use Rattle.std.specs.Prelude.{◌≡◌, ℕ, ◌-◌, ◌≤◌, List, ◌++◌, length, take, replicate, IfOk, Ok, Result}
use Rattle.mixers.specs.Blocks.{over}
use Rattle.mixers.specs.Halves.{Halves}
use Rattle.mode.specs.Limits.{data_most, message_most}
use Rattle.mode.specs.Opening.{open_answer, open_leaves}
use Rattle.mode.specs.Sealing.{cipher_text, cipher_tag}
use Rattle.mode.specs.declared.fault.Fault.{Fault}

-- key, nonce and data that neither call refuses
pub record Admitted (B : ℕ) (K N A : List ℕ) : Type 0 where
  pub key : length K ≡ B
  pub nonce : length N ≤ B
  pub «data» : length A ≤ data_most

-- C and T are what sealing M gives
pub record SealedAs (f : Halves → Halves) (B : ℕ) (K N A C T M : List ℕ) : Type 0 where
  pub limit : length M ≤ message_most
  pub cipher : C ≡ cipher_text f B K N A M
  pub tag : T ≡ cipher_tag f B K N A M

-- what opening C and T gives for M, in any text buffer xs that is as long as C
abbrev pub OpensTo : (Halves → Halves) → ℕ → List ℕ → List ℕ → List ℕ → List ℕ → List ℕ → List ℕ → Type 0
OpensTo f B K N A C T M = (xs : List ℕ) → length C ≤ length xs →
    (open_answer f B K N A C T xs ≡ Ok (length M)) × (open_leaves f B K N A C T xs ≡ over (M ++ replicate (length C - length M) 0) xs)

-- What sealing M promises where it answers these two lengths: they are the lengths of C and of C with T; C and T open to M again; and no other message seals to them.
pub record OpensAgain (f : Halves → Halves) (B : ℕ) (K N A M : List ℕ) (lengths : ℕ × ℕ) : Type 0 where
  pub cipher : lengths.0 ≡ length (cipher_text f B K N A M)
  pub both : lengths.1 ≡ length (cipher_text f B K N A M ++ cipher_tag f B K N A M)
  pub gives_back : OpensTo f B K N A (cipher_text f B K N A M) (cipher_tag f B K N A M) M
  pub alone : (L : List ℕ) → SealedAs f B K N A (cipher_text f B K N A M) (cipher_tag f B K N A M) L → L ≡ M

-- What opening C and T promises, by its answer r, where the text buffer held xs and now holds text: what it accepts is what sealing that message gives; and whatever sealing gives it accepts, if the buffer is long enough.
pub record OpensSealed (f : Halves → Halves) (B : ℕ) (K N A C T xs : List ℕ) (r : Result ℕ Fault) (text : List ℕ) : Type 0 where
  pub only : IfOk r (λ n. SealedAs f B K N A C T (take n text))
  pub all : Admitted B K N A → length C ≤ length xs → (M : List ℕ) → SealedAs f B K N A C T M → r ≡ Ok (length M)
