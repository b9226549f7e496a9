-- Document 01, "Numbers of refusal": the numbers that "Order." lists for each call and "Book" for a load, and a number that is 0 or one of a list.
use Rattle.std.specs.Prelude.{◌≡◌, ◌⊎◌, List, [], ◌∷◌, ℕ}
use Rattle.promises.specs.Step.{Call, request, proof, command, reply, close, revoke}

-- n stands in the list
abbrev pub Listed : List ℕ → ℕ → Type 0
Listed [] n = ⊥
Listed (m ∷ ms) n = (n ≡ m) ⊎ Listed ms n

-- n is 0, "0 for accepted", or stands in the list
abbrev pub Among : List ℕ → ℕ → Type 0
Among ms n = (n ≡ 0) ⊎ Listed ms n

-- "Command: 39, then 1 to 19. Request: 39, 28, 20, 21, 22, 23, 7. Proof: 39, 4, 25, 26, 27, 7. Reply: 39, 4, 6, 29, 30, 7. Close: 39, 4.
-- Revoke: 39, 14, 15."
abbrev pub allowed : Call → List ℕ
allowed (request p f room) = 39 ∷ 28 ∷ 20 ∷ 21 ∷ 22 ∷ 23 ∷ 7 ∷ []
allowed (proof h p room) = 39 ∷ 4 ∷ 25 ∷ 26 ∷ 27 ∷ 7 ∷ []
allowed (command p room) = 39 ∷ 1 ∷ 2 ∷ 3 ∷ 4 ∷ 5 ∷ 6 ∷ 7 ∷ 8 ∷ 9 ∷ 10 ∷ 11 ∷ 12 ∷ 13 ∷ 14 ∷ 15 ∷ 16 ∷ 17 ∷ 18 ∷ 19 ∷ []
allowed (reply h n pay room) = 39 ∷ 4 ∷ 6 ∷ 29 ∷ 30 ∷ 7 ∷ []
allowed (close h) = 39 ∷ 4 ∷ []
allowed (revoke i e w) = 39 ∷ 14 ∷ 15 ∷ []

-- "Book, each with the offset of the fault. 40: below 8 or above 12,232 bytes (0) .. 48 name used before in its kind (its first byte)."
abbrev pub book_numbers : List ℕ
book_numbers = 40 ∷ 41 ∷ 42 ∷ 43 ∷ 44 ∷ 45 ∷ 46 ∷ 47 ∷ 48 ∷ []
