-- Lines: what is spelled is read, and what is read is spelled.
use Rattle.std.proofs.Common.{◌≡◌, ℕ, ◌+◌, ◌<◌, ◌==◌, List, [], ◌∷◌, ◌++◌, false, Option, Some, None, subst, refl, sym, ap, ◌∙◌, arith}
use Rattle.std.specs.Prelude.{IfSome}
use Rattle.std.specs.Option.{option_map}
use Rattle.std.specs.Fmt.{decimal}
use Rattle.std.proofs.lemmas.Bool.{eqb-true, ne_eqb, cond-false}
use Rattle.hex.specs.Hex.{IsBytes, encode_lower}
use Rattle.fo_lines.specs.declared.line.Line.{Line}
use Rattle.fo_lines.specs.declared.line.Line.TheVariants.{Moment, Message, Drops, Console, Flush, Unlink, Archive, FlushAll, ArchiveAll}
use Rattle.fo_lines.specs.Line.{Fits, Spells, spelling}
use Rattle.fo_lines.specs.Reading.{number_at, session_at, bytes_at, message_of, message_at, turn_at, told_at, line_at}
use Rattle.fo_lines.proofs.WordLemmas.{if_some, number_here, number_spelled, session_spelled, session_read, digit_read, teen_read, Written, digit, two, written, bytes_spelled, bytes_read}

-- what holds of each line that is made holds of the line
map_some : {A : Type 0} (o : Option A) (f : A → Line) (P : A → Type 0) (Q : Line → Type 0) → ((a : A) → P a → Q (f a)) → IfSome o P → IfSome (option_map f o) Q
map_some None f P Q g h = tt
map_some (Some a) f P Q g h = g a h

-- ---- what is read is spelled

turn_spelled : (letter : ℕ) → IfSome (turn_at letter) (λ l. Spells l (letter ∷ []))
turn_spelled letter =
    if_some (letter == 102) _ _ _ (λ e. record { fits = tt; spelled = ap (λ x. x ∷ []) (eqb-true letter 102 e) })
    (λ _. if_some (letter == 117) _ _ _ (λ e. record { fits = tt; spelled = ap (λ x. x ∷ []) (eqb-true letter 117 e) })
    (λ _. if_some (letter == 97) _ _ _ (λ e. record { fits = tt; spelled = ap (λ x. x ∷ []) (eqb-true letter 97 e) })
    (λ _. if_some (letter == 70) _ _ _ (λ e. record { fits = tt; spelled = ap (λ x. x ∷ []) (eqb-true letter 70 e) })
    (λ _. if_some (letter == 65) _ _ _ (λ e. record { fits = tt; spelled = ap (λ x. x ∷ []) (eqb-true letter 65 e) })
    (λ _. tt)))))

message_of_spelled : (o : Option ℕ) (word text : List ℕ) → IfSome o (λ n. (n < 16) × (word ≡ decimal n)) → IfSome (message_of o text) (λ l. Spells l (115 ∷ 32 ∷ (word ++ 32 ∷ text)))
message_of_spelled None word text h = tt
message_of_spelled (Some n) word text h =
    map_some (bytes_at text) (Message n) (λ b. IsBytes b × (text ≡ encode_lower b)) _
    (λ b p. record { fits = (h.0, p.0); spelled = ap (λ w. 115 ∷ 32 ∷ (w ++ 32 ∷ text)) h.1 ∙ ap (λ t. 115 ∷ 32 ∷ (decimal n ++ 32 ∷ t)) p.1 })
    (bytes_spelled text)

message_spelled : (rest : List ℕ) → IfSome (message_at rest) (λ l. Spells l (115 ∷ 32 ∷ rest))
message_spelled [] = tt
message_spelled (a ∷ []) = tt
message_spelled (a ∷ b ∷ []) =
    if_some (b == 32) _ _ _
    (λ e. subst (λ x. IfSome (message_of (session_at (a ∷ [])) []) (λ l. Spells l (115 ∷ 32 ∷ a ∷ x ∷ []))) (sym (eqb-true b 32 e))
    (message_of_spelled (session_at (a ∷ [])) (a ∷ []) [] (session_spelled (a ∷ []))))
    (λ _. tt)
message_spelled (a ∷ b ∷ c ∷ rest) =
    if_some (b == 32) _ _ _
    (λ e. subst (λ x. IfSome (message_of (session_at (a ∷ [])) (c ∷ rest)) (λ l. Spells l (115 ∷ 32 ∷ a ∷ x ∷ c ∷ rest))) (sym (eqb-true b 32 e))
    (message_of_spelled (session_at (a ∷ [])) (a ∷ []) (c ∷ rest) (session_spelled (a ∷ []))))
    (λ _. if_some (c == 32) _ _ _
    (λ e. subst (λ x. IfSome (message_of (session_at (a ∷ b ∷ [])) rest) (λ l. Spells l (115 ∷ 32 ∷ a ∷ b ∷ x ∷ rest))) (sym (eqb-true c 32 e))
    (message_of_spelled (session_at (a ∷ b ∷ [])) (a ∷ b ∷ []) rest (session_spelled (a ∷ b ∷ []))))
    (λ _. tt))

told_spelled : (letter : ℕ) (rest : List ℕ) → IfSome (told_at letter rest) (λ l. Spells l (letter ∷ 32 ∷ rest))
told_spelled letter rest =
    if_some (letter == 116) _ _ _
    (λ e. map_some (number_at rest) Moment _ _ (λ n p. record { fits = p.0; spelled = ap (λ x. x ∷ 32 ∷ rest) (eqb-true letter 116 e) ∙ ap (λ w. 116 ∷ 32 ∷ w) p.1 }) (number_spelled rest))
    (λ _. if_some (letter == 115) _ _ _
    (λ e. subst (λ x. IfSome (message_at rest) (λ l. Spells l (x ∷ 32 ∷ rest))) (sym (eqb-true letter 115 e)) (message_spelled rest))
    (λ _. if_some (letter == 104) _ _ _
    (λ e. map_some (session_at rest) Drops _ _ (λ n p. record { fits = p.0; spelled = ap (λ x. x ∷ 32 ∷ rest) (eqb-true letter 104 e) ∙ ap (λ w. 104 ∷ 32 ∷ w) p.1 }) (session_spelled rest))
    (λ _. if_some (letter == 99) _ _ _ (λ e. record { fits = tt; spelled = ap (λ x. x ∷ 32 ∷ rest) (eqb-true letter 99 e) })
    (λ _. tt))))

pub line_spelled : (bytes : List ℕ) → IfSome (line_at bytes) (λ l. Spells l bytes)
line_spelled [] = tt
line_spelled (letter ∷ []) = turn_spelled letter
line_spelled (letter ∷ space ∷ rest) =
    if_some (space == 32) _ _ _
    (λ e. subst (λ x. IfSome (told_at letter rest) (λ l. Spells l (letter ∷ x ∷ rest))) (sym (eqb-true space 32 e)) (told_spelled letter rest))
    (λ _. tt)

-- ---- what is spelled is read

one_digit : (a : ℕ) (text : List ℕ) → message_at (a ∷ 32 ∷ text) ≡ message_of (session_at (a ∷ [])) text
one_digit a [] = refl
one_digit a (c ∷ rest) = refl

two_digits : (a b : ℕ) (text : List ℕ) → (b == 32) ≡ false → message_at (a ∷ b ∷ 32 ∷ text) ≡ message_of (session_at (a ∷ b ∷ [])) text
two_digits a b text e = cond-false _ _ _ e

message_read : (n : ℕ) (b : List ℕ) → n < 16 → IsBytes b → message_at (decimal n ++ 32 ∷ encode_lower b) ≡ Some (Message n b)
message_read n b lt h = of_written (written n lt)
  where
    text : List ℕ
    text = encode_lower b

    read : message_of (Some n) text ≡ Some (Message n b)
    read = ap (option_map (Message n)) (bytes_read b h)

    of_written : Written n → message_at (decimal n ++ 32 ∷ text) ≡ Some (Message n b)
    of_written (digit low e) = ap (λ w. message_at (w ++ 32 ∷ text)) e ∙ one_digit (48 + n) text ∙ ap (λ o. message_of o text) (digit_read n low) ∙ read
    of_written (two low high e) =
        ap (λ w. message_at (w ++ 32 ∷ text)) e ∙ two_digits 49 (38 + n) text (ne_eqb (38 + n) 32 (omega arith)) ∙ ap (λ o. message_of o text) (teen_read n low high) ∙ read

spelling_read : (l : Line) → Fits l → line_at (spelling l) ≡ Some l
spelling_read (Moment n) h = ap (option_map Moment) (number_here n (decimal n) h refl)
spelling_read (Message n b) h = message_read n b h.0 h.1
spelling_read (Drops n) h = ap (option_map Drops) (session_read n h)
spelling_read (Console line) h = refl
spelling_read Flush h = refl
spelling_read Unlink h = refl
spelling_read Archive h = refl
spelling_read FlushAll h = refl
spelling_read ArchiveAll h = refl

pub line_read : (l : Line) (bytes : List ℕ) → Spells l bytes → line_at bytes ≡ Some l
line_read l bytes s = ap line_at s.spelled ∙ spelling_read l s.fits
