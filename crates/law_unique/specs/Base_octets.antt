-- The public functions of `base_octets`. Written by tools/unique.
use Rattle.std.specs.Prelude.{refl}
use Rattle.base_octets.proofs as base_octets
use Rattle.base_octets.specs.contracts as contracts
use Rattle.law_unique.specs.Law.{AsksNothing, OneAnswer, OneSeen, same}

pub base-octets·octet·asks-nothing : AsksNothing contracts.octet.signature base_octets.octet.Reads.requires
base-octets·octet·asks-nothing κs a w = refl

pub base-octets·octet : OneAnswer base_octets.octet.Kinds.ps base_octets.octet.Kinds.r base_octets.octet.Reads.Learnt
base-octets·octet κs a z z' e e' h h' = same h h'

pub base-octets·u16-at·asks-nothing : AsksNothing contracts.u16_at.signature base_octets.u16_at.Reads.requires
base-octets·u16-at·asks-nothing κs a w = refl

pub base-octets·u16-at : OneAnswer base_octets.u16_at.Kinds.ps base_octets.u16_at.Kinds.r base_octets.u16_at.Reads.Learnt
base-octets·u16-at κs a z z' e e' h h' = same h h'

pub base-octets·u32-at·asks-nothing : AsksNothing contracts.u32_at.signature base_octets.u32_at.Reads.requires
base-octets·u32-at·asks-nothing κs a w = refl

pub base-octets·u32-at : OneAnswer base_octets.u32_at.Kinds.ps base_octets.u32_at.Kinds.r base_octets.u32_at.Reads.Learnt
base-octets·u32-at κs a z z' e e' h h' = same h h'

pub base-octets·u64-at·asks-nothing : AsksNothing contracts.u64_at.signature base_octets.u64_at.Reads.requires
base-octets·u64-at·asks-nothing κs a w = refl

pub base-octets·u64-at : OneAnswer base_octets.u64_at.Kinds.ps base_octets.u64_at.Kinds.r base_octets.u64_at.Reads.Learnt
base-octets·u64-at κs a z z' e e' h h' = same h h'

pub base-octets·put-octet·asks-nothing : AsksNothing contracts.put_octet.signature base_octets.put_octet.Reads.requires
base-octets·put-octet·asks-nothing κs a w = refl

pub base-octets·put-octet : OneSeen base_octets.put_octet.Kinds.ps base_octets.put_octet.Kinds.r base_octets.put_octet.Reads.Learnt (λ κs z e. e.0.now)
base-octets·put-octet κs a z z' e e' h h' = same h h'

pub base-octets·put-all·asks-nothing : AsksNothing contracts.put_all.signature base_octets.put_all.Reads.requires
base-octets·put-all·asks-nothing κs a w = refl

pub base-octets·put-all : OneSeen base_octets.put_all.Kinds.ps base_octets.put_all.Kinds.r base_octets.put_all.Reads.Learnt (λ κs z e. e.0.now)
base-octets·put-all κs a z z' e e' h h' = same h h'

pub base-octets·put-u16·asks-nothing : AsksNothing contracts.put_u16.signature base_octets.put_u16.Reads.requires
base-octets·put-u16·asks-nothing κs a w = refl

pub base-octets·put-u16 : OneSeen base_octets.put_u16.Kinds.ps base_octets.put_u16.Kinds.r base_octets.put_u16.Reads.Learnt (λ κs z e. e.0.now)
base-octets·put-u16 κs a z z' e e' h h' = same h h'

pub base-octets·put-u32·asks-nothing : AsksNothing contracts.put_u32.signature base_octets.put_u32.Reads.requires
base-octets·put-u32·asks-nothing κs a w = refl

pub base-octets·put-u32 : OneSeen base_octets.put_u32.Kinds.ps base_octets.put_u32.Kinds.r base_octets.put_u32.Reads.Learnt (λ κs z e. e.0.now)
base-octets·put-u32 κs a z z' e e' h h' = same h h'

pub base-octets·put-u64·asks-nothing : AsksNothing contracts.put_u64.signature base_octets.put_u64.Reads.requires
base-octets·put-u64·asks-nothing κs a w = refl

pub base-octets·put-u64 : OneSeen base_octets.put_u64.Kinds.ps base_octets.put_u64.Kinds.r base_octets.put_u64.Reads.Learnt (λ κs z e. e.0.now)
base-octets·put-u64 κs a z z' e e' h h' = same h h'
