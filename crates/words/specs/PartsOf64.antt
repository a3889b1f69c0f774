-- The words of the table, counted in parts of 64: the constants by which a word is looked up. The table has no word of a later
-- part. No public contract cites them; proofs/Ranks.antt compares them with the table.
-- Assumes nothing.
use Rattle.std.specs.Prelude.{ℕ, List, [], ◌∷◌}

-- bit p of entry k: the word 64k + p is in the table
abbrev pub present : List ℕ
present =
    0x0000000000000000 ∷ 0x7ffffffe3ffffffe ∷ 0x7c0388700a7dd242 ∷ 0x50018c5e1403a00a ∷
    0x7733c02c0cf1cffa ∷ 0x4a0ffff03f3fc0fe ∷ 0x74cffff031ffff36 ∷ 0x4cf3fffc3f0fcc02 ∷
    0x600790f83f3fc032 ∷ 0x40d1fefc0ffff10e ∷ 0x7c03f8380fff9002 ∷ 0x5f33ef3c340380ee ∷
    0x7005c0283a31f0ca ∷ 0x40cf9f500c11c03e ∷ 0x7403ff382f7ffffa ∷ 0x3ffffff000010002 ∷
    0x400080000ffffffc ∷ 0x5ffffef41cffc02e ∷ 0x7c0388300af9f302 ∷ 0x530f8c5c1403a00e ∷
    0x7701c02c3cf7ccfa ∷ 0x4009fff01c1fc03e ∷ 0x708ffff03f7f8b02 ∷ 0x4c03fcfc1f09e006 ∷
    0x4033f0fc3fffcf32 ∷ 0x6cffff8c0ffff32e ∷ 0x7f03fcfc0ffff052 ∷ 0x5ff38f303403ccee ∷
    0x5005c0287a31800a ∷ 0x424bbe500e11c03e ∷ 0x7ffffffc7ffffffe ∷
    []

-- entry k: how many words of the table are below 64k
abbrev pub before : List ℕ
before =
    0 ∷ 0 ∷ 59 ∷ 85 ∷ 104 ∷ 138 ∷ 178 ∷ 223 ∷ 261 ∷ 290 ∷ 328 ∷ 358 ∷ 391 ∷ 415 ∷ 441 ∷ 484 ∷
    512 ∷ 540 ∷ 583 ∷ 609 ∷ 633 ∷ 666 ∷ 696 ∷ 734 ∷ 763 ∷ 801 ∷ 846 ∷ 886 ∷ 920 ∷ 939 ∷ 965 ∷
    []
