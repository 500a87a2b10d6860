-- What a call requires, whole: its lifetimes are within those of its types, as is known where it stands, and its clause
-- holds.
use base.Fml.{Lft}
use contract.BorrowLft.{◌⊑◌, ⊑_static}
use Rattle.std.proofs.Common.{[]}

-- of keys, values and inputs
pub with_three : {A B C P : Type 0} → P → A × (B × C) → A × (B × (C × P))
with_three p h = (h.0, (h.1.0, (h.1.1, p)))

-- of outputs too
pub with_four : {A B C D P : Type 0} → P → A × (B × (C × D)) → A × (B × (C × (D × P)))
with_four p h = (h.0, (h.1.0, (h.1.1.0, (h.1.1.1, p))))

-- of functions too
pub with_five : {A B C D E P : Type 0} → P → A × (B × (C × (D × E))) → A × (B × (C × (D × (E × P))))
with_five p h = (h.0, (h.1.0, (h.1.1.0, (h.1.1.1.0, (h.1.1.1.1, p)))))

-- and of receipts, which have none
pub with_receipt : {A B C D E P : Type 0} {κ : Lft} → P → A × (B × (C × (D × E))) → A × ((κ ⊑ []) × (B × (C × (D × (E × P)))))
with_receipt {κ = κ} p h = (h.0, (⊑_static κ, (h.1.0, (h.1.1.0, (h.1.1.1.0, (h.1.1.1.1, p))))))

-- of functions and receipts
pub with_six : {A B C D E F P : Type 0} → P → A × (B × (C × (D × (E × F)))) → A × (B × (C × (D × (E × (F × P)))))
with_six p h = (h.0, (h.1.0, (h.1.1.0, (h.1.1.1.0, (h.1.1.1.1.0, (h.1.1.1.1.1, p))))))

-- of functions over names, a device, its receipts, writer and reader
pub with_seven : {A B C D E F G P : Type 0} → P → A × (B × (C × (D × (E × (F × G))))) → A × (B × (C × (D × (E × (F × (G × P))))))
with_seven p h = (h.0, (h.1.0, (h.1.1.0, (h.1.1.1.0, (h.1.1.1.1.0, (h.1.1.1.1.1.0, (h.1.1.1.1.1.1, p)))))))

-- of functions, a device, its writer, reader and receipts, and a recorder
pub with_ten : {A B C D E F G H I J P : Type 0} → P → A × (B × (C × (D × (E × (F × (G × (H × (I × J))))))))
    → A × (B × (C × (D × (E × (F × (G × (H × (I × (J × P)))))))))
with_ten p h = (h.0, (h.1.0, (h.1.1.0, (h.1.1.1.0, (h.1.1.1.1.0, (h.1.1.1.1.1.0, (h.1.1.1.1.1.1.0, (h.1.1.1.1.1.1.1.0, (h.1.1.1.1.1.1.1.1.0, (h.1.1.1.1.1.1.1.1.1, p))))))))))
