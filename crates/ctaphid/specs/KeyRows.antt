-- Small cases of a key with two interfaces, as one table. Packets are bytes and numbers are bare, so that a wrong number is noticed. Assumes nothing.
use Rattle.std.specs.Prelude.{ℕ, ◌≡◌, List, [], ◌∷◌, ◌++◌, map, Bool, true, false, replicate}
use Rattle.ctaphid.specs.Interfaces.{Interface, main, vendor, KeySettings, settings_on, Arrival, arrival, both, Key, key, key_set_up, key_step}
use Rattle.ctaphid.specs.KeyDemands.{standard_key}
use Rattle.ctaphid.specs.Rows.{Shown, none, sends, hands, shown, told, sixty_four, transport_of, on, everywhere, nonce, init_on, welcome, ping_on, echo, lock_of, locks, wink_on1, winks, begin60, go_on, done60}

-- ---- what a row is made of

-- a packet on an interface at a time
abbrev pub at : Interface → (time : ℕ) → List ℕ → Arrival
at i t front = arrival i t (sixty_four front)

-- with and without U2F: maxima of 7,609 and 64, and of the vendor's commands 64 alone
abbrev pub full : KeySettings
full = record { main = 7609; vendor = 64; u2f = true; commands = 64 ∷ [] }

abbrev pub plain : KeySettings
plain = record { main = 7609; vendor = 64; u2f = false; commands = 64 ∷ [] }

-- a key with channels 1 and 2 on each interface
abbrev pub having2 : KeySettings → Key
having2 set = key (both (transport_of (settings_on set main) 2) (transport_of (settings_on set vendor) 2)) 0

-- how a key answers a run of arrivals, and what it has become
abbrev pub answers : Key → List Arrival → List Shown
answers k [] = []
answers k (a ∷ rest) = shown (key_step k a).answer ∷ answers (key_step k a).state rest

abbrev pub left : Key → List Arrival → Key
left k [] = k
left k (a ∷ rest) = left (key_step k a).state rest

-- whether a wink runs then
abbrev pub winking : List Arrival → (time : ℕ) → Bool
winking arrivals time = standard_key.is_winking (left (having2 full) arrivals) time

-- a case on either interface, with the other one
abbrev pub each_way : {A : Type 0} → ((this that : Interface) → A) → List A
each_way row = row main vendor ∷ row vendor main ∷ []

-- a message of one byte on channel 1, with a command by its byte 4
abbrev pub one_byte : (byte4 : ℕ) → List ℕ
one_byte b = on 1 ++ (b ∷ 0 ∷ 1 ∷ 9 ∷ [])

pub record KeyRows : Type 0 where
  -- each allocates channels for itself, from 1 on: one that the other interface alone has isn't valid
  pub own-channels : each_way (λ i o. answers (key_set_up full)
      (at i 0 (init_on everywhere) ∷ at o 0 (init_on everywhere) ∷ at i 0 (init_on everywhere) ∷ at i 0 (ping_on 2) ∷ at o 0 (ping_on 2) ∷ at o 0 (ping_on 1) ∷ []))
      ≡ replicate 2 (welcome 0xffff_ffff (on 1) ∷ welcome 0xffff_ffff (on 1) ∷ welcome 0xffff_ffff (on 2) ∷ echo 2 ∷ told 2 11 ∷ echo 1 ∷ [])
  -- a lock of 1 s from 2 on turns the other interface away up to 1,001: the holder's number, a continuation, a broadcast INIT and LOCK. At 1,002 that one may lock, and turns
  -- the first away
  pub turned-away : each_way (λ i o. answers (having2 full)
      (at i 2 (lock_of 1) ∷ at o 1001 (ping_on 1) ∷ at o 1001 (go_on 0) ∷ at o 1001 (init_on everywhere) ∷ at o 1001 (lock_of 1) ∷ at o 1002 (lock_of 1) ∷ at i 1002 (ping_on 1) ∷ []))
      ≡ replicate 2 (locks ∷ told 1 6 ∷ told 1 6 ∷ told 0xffff_ffff 6 ∷ told 1 6 ∷ locks ∷ told 1 6 ∷ [])
  -- meanwhile the holder is served, and another channel of its interface is turned away
  pub holder-served : each_way (λ i o. answers (having2 full) (at i 2 (lock_of 1) ∷ at i 3 (ping_on 1) ∷ at i 3 (ping_on 2) ∷ [])) ≡ replicate 2 (locks ∷ echo 1 ∷ told 2 6 ∷ [])
  -- a channel that isn't valid is told so first
  pub invalid-first : each_way (λ i o. answers (having2 full) (at i 2 (lock_of 1) ∷ at o 3 (ping_on 3) ∷ at o 3 (on 3) ∷ [])) ≡ replicate 2 (locks ∷ told 3 11 ∷ none ∷ [])
  -- LOCK 0 frees the other interface at once
  pub freed : each_way (λ i o. answers (having2 full) (at i 2 (lock_of 1) ∷ at o 3 (ping_on 1) ∷ at i 3 (lock_of 0) ∷ at o 3 (ping_on 1) ∷ []))
      ≡ replicate 2 (locks ∷ told 1 6 ∷ locks ∷ echo 1 ∷ [])
  -- a message that is half sent doesn't make the other interface busy, and goes on whatever comes there
  pub half-sent : each_way (λ i o. answers (having2 full) (at i 0 begin60 ∷ at o 1 (ping_on 1) ∷ at o 2 (go_on 0) ∷ at i 99 (go_on 0) ∷ []))
      ≡ replicate 2 (none ∷ echo 1 ∷ none ∷ done60 ∷ [])
  -- but a lock that is taken there turns its continuation away, and when that is over its time is too: why delivery asks for none
  pub hindered : each_way (λ i o. answers (having2 full) (at i 5 begin60 ∷ at o 50 (lock_of 1) ∷ at i 104 (go_on 0) ∷ at i 1050 (go_on 0) ∷ []))
      ≡ replicate 2 (none ∷ locks ∷ told 1 6 ∷ told 1 5 ∷ [])
  -- an empty WINK on main is echoed and runs until 5,000 ms after it, not at that time
  pub wink-echoed : answers (having2 full) (at main 3 wink_on1 ∷ []) ≡ winks ∷ []
  pub wink-5003 : (winking (at main 3 wink_on1 ∷ []) 5002 ≡ true) × (winking (at main 3 wink_on1 ∷ []) 5003 ≡ false)
  -- with data: InvalidLen there. On vendor: InvalidCmd to both, and none runs
  pub wink-with-data : answers (having2 full) (at main 0 (one_byte 0x88) ∷ []) ≡ told 1 3 ∷ []
  pub wink-on-vendor : answers (having2 full) (at vendor 0 wink_on1 ∷ at vendor 0 (one_byte 0x88) ∷ []) ≡ told 1 1 ∷ told 1 1 ∷ []
  pub wink-none : map (λ (front : List ℕ). winking (at vendor 0 front ∷ []) 0) (wink_on1 ∷ one_byte 0x88 ∷ []) ≡ false ∷ false ∷ []
  -- nothing on vendor ends main's wink: WINK, PING, MSG, INIT, LOCK, InvalidChannel
  pub wink-stays : map (λ (front : List ℕ). winking (at main 3 wink_on1 ∷ at vendor 4 front ∷ []) 5002)
      (wink_on1 ∷ one_byte 0x88 ∷ ping_on 1 ∷ one_byte 0x83 ∷ init_on everywhere ∷ lock_of 1 ∷ ping_on 9 ∷ [])
      ≡ replicate 7 true
  -- on main all of these end it but an empty WINK, and so does a packet that vendor's lock turns away
  pub wink-ended : map (λ (front : List ℕ). winking (at main 3 wink_on1 ∷ at main 4 front ∷ []) 5002)
      (wink_on1 ∷ one_byte 0x88 ∷ ping_on 1 ∷ one_byte 0x83 ∷ init_on everywhere ∷ lock_of 1 ∷ ping_on 9 ∷ [])
      ≡ true ∷ replicate 6 false
  pub wink-turned-away : (answers (having2 full) (at main 3 wink_on1 ∷ at vendor 4 (lock_of 1) ∷ at main 5 (go_on 0) ∷ []) ≡ winks ∷ locks ∷ told 1 6 ∷ [])
      × (winking (at main 3 wink_on1 ∷ at vendor 4 (lock_of 1) ∷ at main 5 (go_on 0) ∷ []) 5 ≡ false)
  -- INIT reports the key's capabilities, WINK's on vendor too: 5 with U2F, 13 without
  pub capabilities : (each_way (λ i o. answers (having2 full) (at i 0 (init_on (on 1)) ∷ [])) ≡ replicate 2 (welcome 1 (on 1) ∷ []))
      × (each_way (λ i o. answers (having2 plain) (at i 0 (init_on (on 1)) ∷ [])) ≡ replicate 2 (sends 1 6 (nonce ++ (0 ∷ 0 ∷ 0 ∷ 1 ∷ 2 ∷ 1 ∷ 0 ∷ 0 ∷ 13 ∷ [])) ∷ []))
  -- MSG is handed out with U2F, and gets InvalidCmd without; CBOR and vendor command 64 are handed out, and 65 gets InvalidCmd
  pub handed_out : each_way (λ i o. answers (having2 full) (at i 0 (one_byte 0x83) ∷ at i 0 (one_byte 0x90) ∷ at i 0 (one_byte 0xc0) ∷ at i 0 (one_byte 0xc1) ∷ []))
      ≡ replicate 2 (hands 1 3 (9 ∷ []) ∷ hands 1 16 (9 ∷ []) ∷ hands 1 64 (9 ∷ []) ∷ told 1 1 ∷ [])
  pub no-msg : each_way (λ i o. answers (having2 plain) (at i 0 (one_byte 0x83) ∷ at i 0 (one_byte 0x90) ∷ [])) ≡ replicate 2 (told 1 1 ∷ hands 1 16 (9 ∷ []) ∷ [])
  -- each has its maximum: a PING of 64 bytes begins on both, one of 65 on main alone
  pub maxima : each_way (λ i o. answers (having2 full) (at i 0 (on 1 ++ (0x81 ∷ 0 ∷ 64 ∷ [])) ∷ at i 100 (on 1 ++ (0x81 ∷ 0 ∷ 65 ∷ [])) ∷ []))
      ≡ (none ∷ none ∷ []) ∷ (none ∷ told 1 3 ∷ []) ∷ []
  -- the questions, of each: whether channel 1's transaction is on, and whether its lock runs
  pub asked-on : each_way (λ i o. map (λ (x : Interface). standard_key.is_on (left (having2 full) (at i 0 begin60 ∷ [])) x 1 99) (i ∷ o ∷ [])) ≡ replicate 2 (true ∷ false ∷ [])
  pub asked-locked : each_way (λ i o. map (λ (x : Interface). standard_key.is_locked_by (left (having2 full) (at i 0 (lock_of 1) ∷ [])) x 1 999) (i ∷ o ∷ [])) ≡ replicate 2 (true ∷ false ∷ [])
