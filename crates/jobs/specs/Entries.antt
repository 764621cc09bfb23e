-- What is written for each line, by what the reader tells of it. Assumes nothing.
use Rattle.std.specs.Prelude.{◌≡◌, ℕ, suc, ◌+◌, ◌-◌, ◌<◌, ◌≤◌, cond, List, [], ◌∷◌, ◌++◌, map, length, take, drop, ℤ, is_ok, Ok, Err, Result, string_bytes}
use Rattle.std.specs.Int.Digits.{AllBelowBase}
use Rattle.digits.specs.Signed.{sided_form}
use Rattle.jobs.specs.declared.reading.Shape.{Shape}
use Rattle.jobs.specs.declared.reading.Stage.TheVariants.{Start}
use Rattle.jobs.specs.declared.reading.Unlawful.{Unlawful}
use Rattle.jobs.specs.declared.listing.Listing.{Listing}
use Rattle.jobs.specs.Reading.{digit_of, read_from}
use Rattle.jobs.specs.Listing.{form_line, fault_line, cut}

-- the bytes that spell the digits: as many as were counted, before the line feed
abbrev pub spelled_digits : Shape → List ℕ → List ℕ
spelled_digits s line = take (length line - 1 - (length line - 1 - s.count)) (drop (length line - 1 - s.count) line)

abbrev pub plain_digits : Shape → List ℕ → List ℕ
plain_digits s line = map digit_of (spelled_digits s line)

abbrev pub shape_form : Shape → List ℕ → List ℤ
shape_form s rs = sided_form s.letter s.radix s.negative rs

-- plain digits that fit the shape of a lawful line, and an area for their form
pub record Makes (s : Shape) (rs : List ℕ) (area : List ℤ) : Type 0 where
  pub low : 1 < s.radix
  pub high : s.radix ≤ 16
  pub few : length rs ≤ 120
  pub plain : AllBelowBase s.radix rs
  pub places : length area ≡ suc (length rs)

-- what is known of a lawful line of this shape
pub record Ready (s : Shape) (line : List ℕ) : Type 0 where
  pub low : 1 < s.radix
  pub high : s.radix ≤ 16
  pub few : s.count ≤ 120
  pub inside : s.count + 1 ≤ length line
  pub size : length (spelled_digits s line) ≡ s.count
  pub plain : AllBelowBase s.radix (plain_digits s line)

-- what a lawful line of this shape and these plain digits lists
abbrev pub listed : Shape → List ℕ → List ℕ
listed s rs = form_line s.letter s.radix (shape_form s rs)

abbrev pub entered : ℕ → List ℕ → Result Shape Unlawful → List ℕ
entered n line (Ok s) = listed s (plain_digits s line)
entered n line (Err u) = fault_line n u.column 8

abbrev pub told : List ℕ → Result Shape Unlawful
told line = read_from Start 1 line

abbrev pub entry : ℕ → List ℕ → List ℕ
entry n line = entered n line (told line)

abbrev pub entries : ℕ → List (List ℕ) → List ℕ
entries n [] = []
entries n (l ∷ ls) = entry n l ++ entries (suc n) ls

abbrev pub form_count : List (List ℕ) → ℕ
form_count [] = 0
form_count (l ∷ ls) = cond (is_ok (told l)) 1 0 + form_count ls

-- a listing with one line more
pub record Adds (line : List ℕ) (before after : Listing) : Type 0 where
  pub text : string_bytes after.text ≡ string_bytes before.text ++ entry (before.lines + 1) line
  pub lines : after.lines ≡ before.lines + 1
  pub forms : after.forms ≡ before.forms + cond (is_ok (told line)) 1 0
  pub faults : after.faults ≡ before.faults + cond (is_ok (told line)) 0 1

-- every line of the file is listed behind what was there
pub record AllListed (file before after : List ℕ) (lines forms : ℕ) : Type 0 where
  pub text : after ≡ before ++ entries 1 (cut file)
  pub lines_are : lines ≡ length (cut file)
  pub forms_are : forms ≡ form_count (cut file)
