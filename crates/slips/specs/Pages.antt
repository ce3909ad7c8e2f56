-- Slips in the look-up of a byte, in its reach, and in the marks: of functions of `pages`.
use Rattle.std.specs.Prelude.{ℕ, ◌+◌, ◌-◌, ◌*◌, ◌%◌, List, [], ◌∷◌, eqb, leb, ltb, replicate, Ok, Err}
use Prim.Native.String.{String}
use Rattle.std.proofs.lemmas.List.Edits.{sets}
use Rattle.words.specs.Pick.{pick}
use Rattle.pages.specs.declared.Access.{Access}
use Rattle.pages.specs.declared.Access.TheVariants.{Load, Store}
use Rattle.pages.specs.declared.Cause.TheVariants.{Addressing, PagingError}
use Rattle.pages.specs.Word.{bit_h, bits_x, frame, page_of, disp_of, next, size, real, word_of, written}
use Rattle.pages.specs.Tests.{test, six_tests, first_bad, number_of, tests}
use Rattle.pages.specs.Look.{Look, fewer, reach, test_seven, look_with, look_of}
use Rattle.slips.specs.Row.{Row, row}

-- a look-up in a map and a memory of n bytes
abbrev LookUp : Type 0
LookUp = List ℕ → ℕ → Access → ℕ → Look

-- the look-up, but the page's word is found in another way
abbrev finding : (List ℕ → ℕ → ℕ) → LookUp
finding find map n acc a =
    let w = find map (page_of a) in
    look_with w n acc a

-- found as in a text: a page that has no word is taken for the first whose number ends with its digits, 10 for 110
abbrev by_ending : List ℕ → ℕ → ℕ
by_ending map p = pick (eqb (word_of map p) 0) (word_of map (p + 100)) (word_of map p)

-- found by six of the nine bits
abbrev by_six_bits : List ℕ → ℕ → ℕ
by_six_bits map p = word_of map (p % 64)

-- H honoured when M is reset
abbrev upper_half : LookUp
upper_half map n acc a =
    let w = word_of map (page_of a) in
    test_seven (tests acc a w) (frame w * 4096 + pick (eqb (bit_h w) 1) 2048 0 + disp_of a) (reach w (disp_of a) n) n a

-- X tested before U: right after the first test, and once more in its place
abbrev x_first : LookUp
x_first map n acc a =
    let w = word_of map (page_of a) in
    test_seven (first_bad (test (leb 2097152 a) Addressing ∷ test (ltb 0 (bits_x w)) PagingError ∷ six_tests acc a w)) (real w (disp_of a)) (reach w (disp_of a) n) n a

-- one byte past memory allowed
abbrev one_more : LookUp
one_more map n acc a = look_of map (n + 1) acc a

-- the look-up, but it reaches otherwise, by the page's word, the displacement and the size of memory
abbrev reaching : (ℕ → ℕ → ℕ → ℕ) → LookUp
reaching far map n acc a =
    let w = word_of map (page_of a) in
    test_seven (tests acc a w) (real w (disp_of a)) (far w (disp_of a) n) n a

-- one byte too far at a page's end
abbrev one_longer : ℕ → ℕ → ℕ → ℕ
one_longer w d n = fewer (size w - d + 1) (n - real w d)

-- to the end of 4,096 bytes, whatever M says
abbrev past_half : ℕ → ℕ → ℕ → ℕ
past_half w d n = fewer (4096 - d) (n - real w d)

-- to the page's end, wherever memory ends
abbrev past_memory : ℕ → ℕ → ℕ → ℕ
past_memory w d n = size w - d

-- never further than the byte itself: not the largest such number
abbrev byte_by_byte : ℕ → ℕ → ℕ → ℕ
byte_by_byte w d n = 1

-- E forgotten
abbrev as_if_loaded : LookUp
as_if_loaded map n acc a = look_of map n Load a

-- a look-up's number, its real address and its reach, or the place of its refusal
abbrev told : Look → List ℕ
told (Ok s) = 0 ∷ s.at ∷ s.reach ∷ []
told (Err e) = number_of e.cause ∷ e.place ∷ []

-- a look-up of address a, with this one page word and a memory of n bytes; a load, in one of 65,536
abbrev looked_for : Access → ℕ → String → LookUp → ℕ → ℕ → ℕ → ℕ → ℕ → Row
looked_for acc n slip slipped page word a one other =
    row slip (told (look_of map n acc a)) (told (slipped map n acc a)) one other
  where
    map : List ℕ
    map = sets (replicate 512 0) page (word ∷ [])

abbrev looked : String → LookUp → ℕ → ℕ → ℕ → ℕ → ℕ → Row
looked = looked_for Load 65536

-- a W mark that clears G
abbrev clearing : ℕ → ℕ
clearing w = 32768 + w % 16384

-- the byte after the last, outside 24 bits
abbrev unwrapped : ℕ → ℕ
unwrapped a = a + 1

abbrev pub slips : List Row
slips =
    -- lookup::look_up, note_written, past_of
    looked "page 10 found as 110" (finding by_ending) 110 0x3003 0xa000 3 0
    ∷ looked "9 bits of the page's number cut to 6" (finding by_six_bits) 10 0x3003 0x4a000 3 0
    ∷ looked "H honoured when M is reset" upper_half 10 0x3203 0xa000 12288 14336
    ∷ looked "X tested before U" x_first 10 0x1043 0xa000 3 4
    ∷ looked "one byte past memory allowed" one_more 10 0x3010 0xa000 1 0
    ∷ row "a W mark that clears G" (written 0x7003 ∷ []) (clearing 0x7003 ∷ []) 0xf003 0xb003
    ∷ row "a byte address that does not wrap" (next 0xffffff ∷ []) (unwrapped 0xffffff ∷ []) 0 0x1000000
    -- the reach: at a page's last byte, at the last of 2,048, ten bytes before memory's end, at a page's first byte; and a store with E set
    ∷ looked "a reach one byte past a page's end" (reaching one_longer) 10 0x3003 0xafff 1 2
    ∷ looked "a reach past the 2,048 bytes of an M page" (reaching past_half) 10 0x3403 0xa7ff 1 2049
    ∷ looked_for Load 61450 "a reach past memory" (reaching past_memory) 10 0x300f 0xa000 10 4096
    ∷ looked "a reach of 1 always" (reaching byte_by_byte) 10 0x3003 0xa000 4096 1
    ∷ looked_for Store 65536 "E forgotten" as_if_loaded 10 0x3803 0xa000 4 0
    ∷ []
